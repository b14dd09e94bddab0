use Rattle.bolt_repair.proofs.RepairLaws.{kept, kept_or_back}
use Rattle.bolt_repair.proofs.laws.repaired_members_are_kept_or_back.Goals as goal

pub returns-clause-kept : goal.returns-clause-kept
returns-clause-kept c = kept

pub returns-clause-back : goal.returns-clause-back
returns-clause-back c = kept_or_back
