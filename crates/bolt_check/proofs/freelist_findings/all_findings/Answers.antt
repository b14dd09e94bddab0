use Rattle.std.proofs.Common.{arith}
use Rattle.bolt_check.proofs.FreelistSteps.{mark_reported}
use Rattle.bolt_check.proofs.freelist_findings.all_findings.Goals as goal

pub push_beyond-requires-clause-reported : goal.push_beyond-requires-clause-reported
push_beyond-requires-clause-reported c = grind (arith, mark_reported)
