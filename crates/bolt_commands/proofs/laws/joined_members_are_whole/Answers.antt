-- The joined listing rises, is what a tree lists, and fits.
use Rattle.bolt_commands.proofs.JoinedFits.{joined_fits, whole_if_fit}
use Rattle.bolt_commands.proofs.laws.joined_members_are_whole.Goals as goal

pub returns : goal.returns
returns c = whole_if_fit (c.each_file_has_a_joined_listing.ensures _ _) c.requires c.a_fit_listing_is_of_one_tree.ensures (λ listing is.
    let (tree, same) = c.joined_listing_is_of_a_tree.ensures _ _ listing is in
    record {
      tree = tree;
      lists = same;
      rises = c.joined_members_rise.ensures listing is;
      fit = joined_fits _ _ c.the_file_of_joined_members_is_bytes.ensures listing is;
    })
