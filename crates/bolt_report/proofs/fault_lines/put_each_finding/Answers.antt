use Rattle.bolt_report.proofs.Words.{finding_text, slice_get-get_or, Wrote-element, Wrote-element_return}
use Rattle.bolt_report.proofs.fault_lines.put_each_finding.Goals as goal

pub returns-in_err-finding_text : goal.returns-in_err-finding_text
returns-in_err-finding_text g c =
    Wrote-element_return finding_text c.args.findings.now c.loop-finding.finding-index _ _ (slice_get-get_or _ _ _ c.loop-finding-test.true)
    c.loop-finding.invariant c.in_err-finding_text.ensures c.from_residual.ensures.0

pub loop-finding-preserved : goal.loop-finding-preserved
loop-finding-preserved g c =
    Wrote-element finding_text c.args.findings.now c.loop-finding.finding-index _ (slice_get-get_or _ _ _ c.loop-finding-test.true) c.loop-finding.invariant
    c.in_ok-finding_text.ensures
