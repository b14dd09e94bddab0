-- What the findings of the accounts show: all of them, in order.
use Rattle.std.specs.Prelude.{List}
use Rattle.bolt_check.specs.{declared.finding.Finding.Finding, declared.finding_list.Findings.Findings}

unfoldable pub findings_in : Findings → List Finding
findings_in findings = findings.items.items
