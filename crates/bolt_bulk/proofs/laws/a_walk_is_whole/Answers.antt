-- The trees of a checked file are only known to be sound.
use Rattle.std.proofs.Math.Logic.{∥∥₁_map}
use Rattle.bolt_check.proofs.Exports.{checked_trees}
use Rattle.bolt_check.specs.CheckedFiles.{bytes_of, meta_of}
use Rattle.bolt_tree.proofs.Exports.{is_the_listing}
use Rattle.bolt_tree.specs.{Walks.walk_checked, WalksLeft.the_listing}
use Rattle.bolt_bulk.proofs.laws.a_walk_is_whole.Goals as goal

pub returns : goal.returns
unfolding bytes_of
returns c =
    let checked = walk_checked c.args.walk.now in
    record {
      some = ∥∥₁_map (is_the_listing checked) (λ is. (the_listing checked, is));
      all = c.requires;
      one = λ listing lists.
          ∥∥₁_map (checked_trees checked) (λ trees.
          c.a_files_listing_is_of_one_tree.ensures (bytes_of checked) (meta_of checked) listing checked.of_bytes trees lists);
    }
