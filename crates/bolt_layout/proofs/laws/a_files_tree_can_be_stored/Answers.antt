use Rattle.bolt_layout.proofs.FileTrees.{tree_storable}
use Rattle.bolt_layout.proofs.laws.a_files_tree_can_be_stored.Goals as goal

pub returns : goal.returns
returns c = tree_storable c.a_tree_lists_its_bucket.ensures
