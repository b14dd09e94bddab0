-- What is recovered rises, is what a tree lists, and fits.
use Rattle.bolt_commands.proofs.JoinedFits.{recovered_fits, whole_if_fit}
use Rattle.bolt_commands.proofs.laws.a_recovery_is_whole.Goals as goal

pub returns : goal.returns
returns c = whole_if_fit (c.each_file_has_a_recovered_listing.ensures _ _) c.requires c.a_fit_listing_is_of_one_tree.ensures (λ listing is.
    let (tree, same) = c.recovered_listing_is_of_a_tree.ensures _ _ listing is in
    record { tree = tree; lists = same; rises = is.rises; fit = recovered_fits _ _ c.the_file_of_a_recovery_is_bytes.ensures listing is })
