use Rattle.std.proofs.Common.{sym}
use Rattle.bolt_format.specs.TreePages.{branches_on}
use Rattle.bolt_format.proofs.GoodPages.{length-branch_elements}
use Rattle.bolt_format.proofs.tree_page.BranchPage.count.Goals as goal

pub returns : goal.returns
unfolding branches_on
returns c = sym (length-branch_elements c.args.self.now.bytes.now c.args.self.now.count)
