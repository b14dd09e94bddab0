use Rattle.bolt_report.proofs.Words.{loss_text, loss_view}
use Rattle.bolt_text.proofs.Exports.{view_more, view_return}
use Rattle.bolt_report.proofs.loss_lines.put_losses.Goals as goal

pub returns-in_err-put_loss : goal.returns-in_err-put_loss
returns-in_err-put_loss g c =
    view_return loss_text loss_view c.args.losses.now c.loop-loss.loss-index c.loss-item.result _ c.loop-loss-test.true c.loss-item.is c.loop-loss.invariant
    c.in_err-put_loss.ensures c.from_residual.ensures.0

pub loop-loss-preserved : goal.loop-loss-preserved
loop-loss-preserved g c =
    view_more loss_text loss_view c.args.losses.now c.loop-loss.loss-index c.loss-item.result c.loop-loss-test.true c.loss-item.is c.loop-loss.invariant
    c.in_ok-put_loss.ensures
