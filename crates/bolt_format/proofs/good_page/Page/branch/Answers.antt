use Rattle.std.proofs.Common.{rules}
use Rattle.bolt_format.specs.{Elements.branch_elements, ShownGoodPages.shown}
use Rattle.bolt_format.specs.declared.header.Kind.TheVariants as kind
use Rattle.bolt_format.proofs.GoodPages.{good_branch, good_content, slice_get-made}
use Rattle.bolt_format.proofs.good_page.Page.branch.Goals as goal

pub branch_at-requires-clause-table : goal.branch_at-requires-clause-table
unfolding shown
branch_at-requires-clause-table c = (good_branch _ _ c.args.i (good_content _ kind.Branch _ _ c.args.self.now.good c.requires.kind) c.requires.below).0

pub branch_at-requires-clause-data : goal.branch_at-requires-clause-data
unfolding shown
branch_at-requires-clause-data c = (good_branch _ _ c.args.i (good_content _ kind.Branch _ _ c.args.self.now.good c.requires.kind) c.requires.below).1

pub returns : goal.returns
unfolding shown branch_elements
returns c = search (rules, slice_get-made)
