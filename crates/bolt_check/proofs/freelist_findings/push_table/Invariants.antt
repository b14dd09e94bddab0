use Rattle.std.proofs.Common.{◌≤◌}
use Rattle.bolt_check.proofs.Words.{HasFindingsTo}
use Rattle.bolt_check.proofs.freelist_findings.push_table.Given as goal

-- all before the interval of lost pages that ends here is reported
abbrev pub invariant-loop-n : goal.invariant-loop-n
invariant-loop-n l = record {
  order : l.from ≤ l.n;
  reported : HasFindingsTo l.freelist l.from l.n l.findings.items;
}
