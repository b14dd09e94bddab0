use Rattle.std.proofs.Common.{◌≡◌, ◌++◌, List, IsTrue}
use Rattle.std.specs.List.{count_by}
use Rattle.bolt_recover.proofs.Words.{ForRecovered, Member, recovery_file, recovery_left, recovery_meta, recovery_work}
use Rattle.bolt_recover.specs.{ShownStates.AreFiguresOf, States.is_root_value}
use Rattle.bolt_recover.proofs.counting.count_recovered.Given as goal

-- the same file under the same meta, and what isn't left was counted
abbrev pub invariant-members : goal.invariant-members
invariant-members l = record {
  file : recovery_file l.recovery ≡ recovery_file l.fn.recovery;
  meta : recovery_meta l.recovery ≡ recovery_meta l.fn.recovery;
  counted : ForRecovered (recovery_file l.fn.recovery) (recovery_meta l.fn.recovery) (λ listing.
      (done : List Member) × (listing ≡ done ++ recovery_left l.recovery listing) × AreFiguresOf done l.figures
      × (IsTrue l.alone → count_by is_root_value done ≡ 0));
}

abbrev pub decreases-members : goal.decreases-members
decreases-members l = recovery_work l.recovery
