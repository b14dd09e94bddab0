use Rattle.bolt_report.proofs.Words.{Wrote-return, Wrote-then}
use Rattle.bolt_report.proofs.state_lines.put_states.Goals as goal

pub returns-in_err-put_all_kept : goal.returns-in_err-put_all_kept
returns-in_err-put_all_kept g c = Wrote-return _ _ (rw c.as_slice.ensures.value at c.in_err-put_all_kept.ensures) c.from_residual.ensures.0

pub returns : goal.returns
returns g c = Wrote-then (rw c.as_slice.ensures.value at c.in_ok-put_all_kept.ensures) (rw c.as_slice-2.ensures.value at c.put_all_lost.ensures)
