use Rattle.std.proofs.Common.{◌∙◌}
use Rattle.bolt_recover.proofs.JoinedLemmas.{joined_tree, tree_recovered, with_elements}
use Rattle.bolt_recover.proofs.laws.joined_listing_is_of_a_tree.Goals as goal

pub returns : goal.returns
returns c = λ file meta listing is.
    let (tree, of) = joined_tree file meta is.recovered (with_elements file meta is.found) (tree_recovered file meta is.recovered is.recovers) in
    (tree, is.joined ∙ of)
