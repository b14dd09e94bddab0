use Rattle.bolt_report.proofs.Words.{Wrote-return, Wrote-then}
use Rattle.bolt_report.proofs.state_lines.put_metas.Goals as goal

pub returns-in_err-put_meta : goal.returns-in_err-put_meta
returns-in_err-put_meta g c = Wrote-return _ _ c.in_err-put_meta.ensures c.from_residual.ensures.0

pub returns-in_err-put_meta-2 : goal.returns-in_err-put_meta-2
returns-in_err-put_meta-2 g c = Wrote-then c.in_ok-put_meta.ensures (Wrote-return _ _ c.in_err-put_meta-2.ensures c.from_residual-in_err-put_meta-2.ensures.0)
