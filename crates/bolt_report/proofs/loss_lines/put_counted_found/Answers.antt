use Rattle.bolt_report.proofs.Words.{Wrote-return}
use Rattle.bolt_report.proofs.loss_lines.put_counted_found.Goals as goal

pub returns-in_err-put_all_found : goal.returns-in_err-put_all_found
returns-in_err-put_all_found g c = Wrote-return _ _ c.in_err-put_all_found.ensures c.from_residual.ensures.0
