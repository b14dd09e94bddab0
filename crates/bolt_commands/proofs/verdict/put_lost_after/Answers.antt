-- What is wrong apart from the pages, and then the text of what is lost and found.
use Rattle.std.proofs.Common.{inl, inr, map, refl}
use Rattle.bolt_commands.proofs.{Vocabulary.Wrote-stop, Vocabulary.Wrote-then, Vocabulary.counted_lost_text, Vocabulary.errors_in}
use Rattle.bolt_commands.proofs.{Vocabulary.found_view, Vocabulary.lost_view, Vocabulary.page_gap_view, Doing.ends_as}
use Rattle.bolt_commands.proofs.verdict.put_lost_after.Goals as goal

pub returns-in_err-earlier : goal.returns-in_err-earlier
returns-in_err-earlier g c =
    let put =
    Wrote-stop (counted_lost_text (errors_in c.args.faults) (lost_view c.args.lost) (map page_gap_view c.args.gaps.now) (map found_view c.args.found.now))
    c.in_err-earlier.ensures.lines in
    inr (put.failures, put.appends, ends_as _ _ c.from_residual.ensures.1)

pub returns-in_err-put_counted_lost : goal.returns-in_err-put_counted_lost
returns-in_err-put_counted_lost g c =
    let put = Wrote-then c.in_ok-earlier.ensures.lines (rw c.in_ok-earlier.ensures.errors at c.in_err-put_counted_lost.ensures) in
    inr (put.failures, put.appends, ends_as _ _ c.from_residual-in_err-put_counted_lost.ensures.1)

pub returns : goal.returns
returns g c =
    let put = Wrote-then c.in_ok-earlier.ensures.lines (rw c.in_ok-earlier.ensures.errors at c.in_ok-put_counted_lost.ensures) in
    inl (put.appends, put.failures, refl)
