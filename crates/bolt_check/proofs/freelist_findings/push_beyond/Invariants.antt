use Rattle.bolt_check.proofs.Words.{IsBeyondTo}
use Rattle.bolt_check.proofs.freelist_findings.push_beyond.Given as goal

abbrev pub invariant-loop-i : goal.invariant-loop-i
invariant-loop-i l = IsBeyondTo l.freelist l.last l.i l.findings.items
