use Rattle.std.proofs.lemmas.List.{length-map}
use Rattle.bolt_report.proofs.Words.{page_gap_view, Wrote-return, Wrote-then, Wrote-then_return}
use Rattle.bolt_report.proofs.loss_lines.put_counted_lost.Goals as goal

pub returns-in_err-put_lost_lines : goal.returns-in_err-put_lost_lines
returns-in_err-put_lost_lines g c = Wrote-return _ _ c.in_err-put_lost_lines.ensures c.from_residual.ensures.0

pub returns-in_err-put_gaps : goal.returns-in_err-put_gaps
returns-in_err-put_gaps g c =
    Wrote-then_return _ _ c.in_ok-put_lost_lines.ensures c.in_err-put_gaps.ensures c.from_residual-in_err-put_gaps.ensures.0

pub returns : goal.returns
returns g c =
    rw (length-map c.args.gaps.now page_gap_view)
    (Wrote-then c.in_ok-put_lost_lines.ensures (Wrote-then c.in_ok-put_gaps.ensures (rw c.lost_count.ensures at c.put_counted_found.ensures)))
