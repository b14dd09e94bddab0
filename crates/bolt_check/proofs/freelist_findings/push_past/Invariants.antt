use Rattle.std.proofs.Common.{◌≤◌}
use Rattle.bolt_check.proofs.Words.{IsPastTo}
use Rattle.bolt_check.proofs.freelist_findings.push_past.Given as goal

abbrev pub invariant-loop-i : goal.invariant-loop-i
invariant-loop-i l = record {
  within : l.from ≤ l.freelist.high_water;
  reported : IsPastTo l.freelist l.from l.i l.findings.items;
}
