use Rattle.bolt_report.proofs.Words.{finding_text}
use Rattle.bolt_text.proofs.Exports.{WroteLines}
use Rattle.bolt_report.proofs.fault_lines.put_each_finding.Given as goal

-- the lines of the findings before this one were written
abbrev pub invariant-loop-finding : goal.invariant-loop-finding
invariant-loop-finding g l = WroteLines g.S.Sink l.initial.sink l.sink finding_text l.findings l.finding-index
