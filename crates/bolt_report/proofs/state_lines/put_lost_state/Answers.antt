use Rattle.bolt_report.proofs.Words.{Wrote-return, Wrote-then}
use Rattle.bolt_report.specs.StateLines.{lost_line}
use Rattle.bolt_report.proofs.state_lines.put_lost_state.Goals as goal

pub returns-in_err-put_place : goal.returns-in_err-put_place
unfolding lost_line
returns-in_err-put_place g c = Wrote-return _ _ c.in_err-put_place.ensures c.from_residual.ensures.0

pub returns-in_err-put : goal.returns-in_err-put
unfolding lost_line
returns-in_err-put g c = Wrote-then c.in_ok-put_place.ensures (Wrote-return _ _ c.in_err-put.ensures c.from_residual-in_err-put.ensures.0)

pub returns : goal.returns
unfolding lost_line
returns g c = Wrote-then c.in_ok-put_place.ensures (Wrote-then c.in_ok-put.ensures c.put_metas.ensures)
