use Rattle.bolt_report.proofs.Words.{found_line, found_view}
use Rattle.bolt_text.proofs.Exports.{view_more, view_return}
use Rattle.bolt_report.proofs.loss_lines.put_all_found.Goals as goal

pub returns-in_err-put_found : goal.returns-in_err-put_found
returns-in_err-put_found g c =
    view_return found_line found_view c.args.found.now c.loop-page.page-index c.page-item.result _ c.loop-page-test.true c.page-item.is
    c.loop-page.invariant c.in_err-put_found.ensures c.from_residual.ensures.0

pub loop-page-preserved : goal.loop-page-preserved
loop-page-preserved g c =
    view_more found_line found_view c.args.found.now c.loop-page.page-index c.page-item.result c.loop-page-test.true c.page-item.is c.loop-page.invariant
    c.in_ok-put_found.ensures
