use Rattle.bolt_report.proofs.Words.{file_finding_text, slice_get-get_or, Wrote-element, Wrote-element_return}
use Rattle.bolt_report.proofs.bbolt_lines.put_file_findings.Goals as goal

pub returns-in_err-put_file_finding : goal.returns-in_err-put_file_finding
returns-in_err-put_file_finding g c =
    Wrote-element_return file_finding_text c.args.findings.now c.loop-finding.finding-index _ _ (slice_get-get_or _ _ _ c.loop-finding-test.true)
    c.loop-finding.invariant c.in_err-put_file_finding.ensures c.from_residual.ensures.0

pub loop-finding-preserved : goal.loop-finding-preserved
loop-finding-preserved g c =
    Wrote-element file_finding_text c.args.findings.now c.loop-finding.finding-index _ (slice_get-get_or _ _ _ c.loop-finding-test.true)
    c.loop-finding.invariant c.in_ok-put_file_finding.ensures
