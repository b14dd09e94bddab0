use Rattle.std.proofs.lemmas.List.{length-map}
use Rattle.bolt_report.proofs.Words.{page_gap_view, Wrote-return, Wrote-then, Wrote-then_return}
use Rattle.bolt_report.proofs.gap_lines.put_findings.Goals as goal

pub returns-in_err-put_each_finding : goal.returns-in_err-put_each_finding
returns-in_err-put_each_finding g c = Wrote-return _ _ c.in_err-put_each_finding.ensures c.from_residual.ensures.0

pub returns-in_err-put_gaps : goal.returns-in_err-put_gaps
returns-in_err-put_gaps g c =
    Wrote-then_return _ _ c.in_ok-put_each_finding.ensures c.in_err-put_gaps.ensures c.from_residual-in_err-put_gaps.ensures.0

pub returns : goal.returns
returns g c =
    rw (length-map c.args.gaps.now page_gap_view)
    (Wrote-then c.in_ok-put_each_finding.ensures (Wrote-then c.in_ok-put_gaps.ensures c.put_error_count.ensures))
