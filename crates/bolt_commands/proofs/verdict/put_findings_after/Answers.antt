-- What is wrong apart from the pages, and then the text of the findings.
use Rattle.std.proofs.Common.{inl, inr, map, refl}
use Rattle.bolt_commands.proofs.{Vocabulary.Wrote-stop, Vocabulary.Wrote-then, Vocabulary.errors_in, Doing.ends_as}
use Rattle.bolt_recover.specs.PageGaps.{page_gap_view}
use Rattle.bolt_report.specs.GapLines.{findings_text}
use Rattle.bolt_commands.proofs.verdict.put_findings_after.Goals as goal

pub returns-in_err-earlier : goal.returns-in_err-earlier
returns-in_err-earlier g c =
    let put = Wrote-stop (findings_text (errors_in c.args.faults) c.args.findings.now (map page_gap_view c.args.gaps.now)) c.in_err-earlier.ensures.lines in
    inr (put.failures, put.appends, ends_as _ _ c.from_residual.ensures.1)

pub returns-in_err-put_findings : goal.returns-in_err-put_findings
returns-in_err-put_findings g c =
    let put = Wrote-then c.in_ok-earlier.ensures.lines (rw c.in_ok-earlier.ensures.errors at c.in_err-put_findings.ensures) in
    inr (put.failures, put.appends, ends_as _ _ c.from_residual-in_err-put_findings.ensures.1)

pub returns : goal.returns
returns g c =
    let put = Wrote-then c.in_ok-earlier.ensures.lines (rw c.in_ok-earlier.ensures.errors at c.in_ok-put_findings.ensures) in
    inl (put.appends, put.failures, refl)
