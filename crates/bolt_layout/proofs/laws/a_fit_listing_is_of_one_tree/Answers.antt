use Rattle.bolt_layout.proofs.FileTrees.{one_tree}
use Rattle.bolt_layout.proofs.laws.a_fit_listing_is_of_one_tree.Goals as goal

pub returns : goal.returns
returns c = one_tree c.a_tree_is_of_its_listing.ensures
