use Rattle.bolt_tree.proofs.{Words.IsEntry, TreeListing.tree_lists}
use Rattle.bolt_tree.proofs.laws.a_tree_lists_its_bucket.Goals as goal

pub returns : goal.returns
returns c = λ file meta bucket tree is. tree_lists (IsEntry file meta) bucket tree is
