use Rattle.bolt_report.proofs.Words.{Wrote-return, Wrote-then}
use Rattle.bolt_report.specs.StateLines.{kept_line}
use Rattle.bolt_report.proofs.state_lines.put_kept.Goals as goal

pub returns-in_err-put_place : goal.returns-in_err-put_place
unfolding kept_line
returns-in_err-put_place g c = Wrote-return _ _ c.in_err-put_place.ensures c.from_residual.ensures.0

pub returns-in_err-put_figures : goal.returns-in_err-put_figures
unfolding kept_line
returns-in_err-put_figures g c =
    Wrote-then c.in_ok-put_place.ensures (Wrote-return _ _ c.in_err-put_figures.ensures c.from_residual-in_err-put_figures.ensures.0)
