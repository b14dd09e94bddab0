use Rattle.std.proofs.Common.{◌≡◌}
use Rattle.bolt_recover.proofs.Words.{recovery_begun, recovery_file, recovery_meta, recovery_work}
use Rattle.bolt_recover.specs.Recoveries.{LeavesRest}
use Rattle.bolt_recover.proofs.recovery.Recovery.finish.Given as goal

-- the same file under the same meta, and what is left is the rest of what was left
abbrev pub invariant-loop-self : goal.invariant-loop-self
invariant-loop-self l = record {
  file : recovery_file l.self ≡ recovery_file l.fn.self;
  meta : recovery_meta l.self ≡ recovery_meta l.fn.self;
  begun : recovery_begun l.self ≡ recovery_begun l.fn.self;
  rest : LeavesRest l.fn.self l.self;
}

abbrev pub decreases-loop-self : goal.decreases-loop-self
decreases-loop-self l = recovery_work l.self
