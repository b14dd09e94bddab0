-- The members begin again after each pass.
use Rattle.std.proofs.Common.{arith}
use Rattle.bolt_bulk.proofs.WalkLeft.{whole_again}
use Rattle.bolt_bulk.proofs.members_copy.plan_members.Goals as goal

pub plan_within-requires : goal.plan_within-requires
plan_within-requires g c κs = grind (arith, whole_again)
