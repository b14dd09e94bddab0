use Rattle.bolt_report.proofs.Words.{Wrote-return, Wrote-then}
use Rattle.bolt_report.proofs.state_lines.put_figures.Goals as goal

pub returns-in_err-put_counts : goal.returns-in_err-put_counts
returns-in_err-put_counts g c = Wrote-return _ _ c.in_err-put_counts.ensures c.from_residual.ensures.0

pub returns-in_err-put_names : goal.returns-in_err-put_names
returns-in_err-put_names g c = Wrote-then c.in_ok-put_counts.ensures (Wrote-return _ _ c.in_err-put_names.ensures c.from_residual-in_err-put_names.ensures.0)
