use Rattle.std.proofs.Common.{◌≡◌, ◌<◌, ◌^◌, ◌||◌, length}
use Rattle.bolt_check.specs.Counts.{counted, saturated}
use Rattle.bolt_recover.proofs.Words.{ForRecovered, holds_key, recovery_file, recovery_left, recovery_meta, recovery_work}
use Rattle.bolt_recover.proofs.recovery.Recovery.run_to_end.Given as goal

-- the same file under the same meta, and what isn't left was looked at and counted
abbrev pub invariant-loop-self : goal.invariant-loop-self
invariant-loop-self l = record {
  file : recovery_file l.self ≡ recovery_file l.fn.self;
  meta : recovery_meta l.self ≡ recovery_meta l.fn.self;
  looked : ForRecovered (recovery_file l.fn.self) (recovery_meta l.fn.self)
      (λ listing. (l.has_bucket_key || holds_key (recovery_left l.self listing)) ≡ holds_key listing);
  number : ForRecovered (recovery_file l.fn.self) (recovery_meta l.fn.self)
      (λ listing. counted l.members (length (recovery_left l.self listing)) ≡ saturated (length listing));
  small : l.members < 2 ^ 64;
}

abbrev pub decreases-loop-self : goal.decreases-loop-self
decreases-loop-self l = recovery_work l.self
