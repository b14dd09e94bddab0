use Rattle.std.proofs.Common.{arith, subst₂}
use Rattle.bolt_check.proofs.FreelistSteps.{past_reported}
use Rattle.bolt_check.proofs.freelist_findings.push_id.Goals as goal

pub returns-clause-reported : goal.returns-clause-reported
returns-clause-reported c = grind (arith, subst₂, past_reported)
