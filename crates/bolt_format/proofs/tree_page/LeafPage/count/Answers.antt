use Rattle.std.proofs.Common.{sym}
use Rattle.bolt_format.specs.TreePages.{leaves_on}
use Rattle.bolt_format.proofs.GoodPages.{length-leaf_elements}
use Rattle.bolt_format.proofs.tree_page.LeafPage.count.Goals as goal

pub returns : goal.returns
unfolding leaves_on
returns c = sym (length-leaf_elements c.args.self.now.bytes.now c.args.self.now.count)
