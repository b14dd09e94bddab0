use Rattle.bolt_commands.proofs.Vocabulary.{Wrote-return, Wrote-then}
use Rattle.bolt_commands.proofs.copies.put_copy_report.Goals as goal

pub returns-in_err-put_file_faults : goal.returns-in_err-put_file_faults
returns-in_err-put_file_faults g c = Wrote-return _ _ c.in_err-put_file_faults.ensures.lines c.from_residual.ensures.0

pub returns-in_err-put_lost : goal.returns-in_err-put_lost
returns-in_err-put_lost g c =
    Wrote-then c.in_ok-put_file_faults.ensures.lines (Wrote-return _ _ c.in_err-put_lost.ensures c.from_residual-in_err-put_lost.ensures.0)

pub returns-in_err-put_unread : goal.returns-in_err-put_unread
returns-in_err-put_unread g c =
    Wrote-then c.in_ok-put_file_faults.ensures.lines
    (Wrote-then c.in_ok-put_lost.ensures (Wrote-return _ _ c.in_err-put_unread.ensures c.from_residual-in_err-put_unread.ensures.0))

pub returns-in_err-put_if_repaired : goal.returns-in_err-put_if_repaired
returns-in_err-put_if_repaired g c =
    Wrote-then c.in_ok-put_file_faults.ensures.lines (Wrote-then c.in_ok-put_lost.ensures
    (Wrote-then c.in_ok-put_unread.ensures (Wrote-return _ _ c.in_err-put_if_repaired.ensures c.from_residual-in_err-put_if_repaired.ensures.0)))

pub returns : goal.returns
returns g c =
    Wrote-then c.in_ok-put_file_faults.ensures.lines (Wrote-then c.in_ok-put_lost.ensures
    (Wrote-then c.in_ok-put_unread.ensures (Wrote-then c.in_ok-put_if_repaired.ensures c.put_lengths.ensures)))
