use Rattle.bolt_report.proofs.Words.{Wrote-return}
use Rattle.bolt_report.proofs.loss_lines.put_lost.Goals as goal

pub returns-in_err-put_lost_lines : goal.returns-in_err-put_lost_lines
returns-in_err-put_lost_lines g c = Wrote-return _ _ c.in_err-put_lost_lines.ensures c.from_residual.ensures.0
