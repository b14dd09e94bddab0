use Rattle.std.proofs.Common.{arith}
use Rattle.bolt_report.proofs.Words.{branch_line, branch_view, Wrote-element, Wrote-element_return, Wrote-elements}
use Rattle.bolt_format.specs.TreePages.{branches_on}
use Rattle.bolt_report.proofs.page_lines.put_branches.Goals as goal

pub loop-i-preserved : goal.loop-i-preserved
loop-i-preserved g c =
    Wrote-element branch_line (branches_on c.args.page.now) c.loop-i.i (branch_view c.element.result) c.element.ensures c.loop-i.invariant
    c.in_ok-put_branch.ensures

pub returns-in_err-put_branch : goal.returns-in_err-put_branch
returns-in_err-put_branch g c =
    Wrote-element_return branch_line (branches_on c.args.page.now) c.loop-i.i (branch_view c.element.result) _ c.element.ensures c.loop-i.invariant
    c.in_err-put_branch.ensures c.from_residual.ensures.0

pub returns : goal.returns
returns g c = Wrote-elements branch_line (branches_on c.args.page.now) c.loop-i.i (omega (arith, c.count-i-end.ensures)) c.loop-i.invariant
