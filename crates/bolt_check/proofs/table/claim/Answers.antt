use Rattle.bolt_check.proofs.{Words.cases_lt, TableLemmas.unclaimed_set}
use Rattle.std.proofs.lemmas.Grind.{common_steps}
use Rattle.std.proofs.Common.{arith, length-set, get_or-set_other}
use Rattle.bolt_check.proofs.table.claim.Goals as goal

pub loop-n-preserved : goal.loop-n-preserved
loop-n-preserved c = grind (arith, common_steps, length-set, unclaimed_set, cases_lt, get_or-set_other)
