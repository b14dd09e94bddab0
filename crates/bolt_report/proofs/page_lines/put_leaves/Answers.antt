use Rattle.std.proofs.Common.{arith}
use Rattle.bolt_report.proofs.Words.{leaf_line, leaf_view, Wrote-element, Wrote-element_return, Wrote-elements}
use Rattle.bolt_format.specs.TreePages.{leaves_on}
use Rattle.bolt_report.proofs.page_lines.put_leaves.Goals as goal

pub loop-i-preserved : goal.loop-i-preserved
loop-i-preserved g c =
    Wrote-element leaf_line (leaves_on c.args.page.now) c.loop-i.i (leaf_view c.element.result) c.element.ensures.element c.loop-i.invariant
    c.in_ok-put_leaf.ensures

pub returns-in_err-put_leaf : goal.returns-in_err-put_leaf
returns-in_err-put_leaf g c =
    Wrote-element_return leaf_line (leaves_on c.args.page.now) c.loop-i.i (leaf_view c.element.result) _ c.element.ensures.element c.loop-i.invariant
    c.in_err-put_leaf.ensures c.from_residual.ensures.0

pub returns : goal.returns
returns g c = Wrote-elements leaf_line (leaves_on c.args.page.now) c.loop-i.i (omega (arith, c.count-i-end.ensures)) c.loop-i.invariant
