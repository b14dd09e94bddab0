use Rattle.std.proofs.Common.{◌≡◌, ◌<◌, ◌^◌, length}
use Rattle.bolt_check.specs.Counts.{counted}
use Rattle.bolt_recover.specs.{RecoveredMembers.recovered_file, RecoveredMembers.recovered_left, RecoveredMembers.recovered_meta, RecoveredMembers.recovered_work, Recovered.ForRecovered}
use Rattle.bolt_recover.specs.{Recovered.IsRecovered}
use Rattle.bolt_repair.specs.RecoveredStores.{store_entries}
use Rattle.bolt_repair.proofs.recovered_store.count_entries.Given as goal

-- those so far and those among the members that are left are all
abbrev pub invariant-members : goal.invariant-members
invariant-members l = record {
  reads : ForRecovered l.searched.file.now l.searched.meta (λ recovered. IsRecovered (recovered_file l.recovered) (recovered_meta l.recovered) recovered);
  fits : l.count < 2 ^ 64;
  all : ForRecovered l.searched.file.now l.searched.meta
      (λ recovered. counted l.count (length (store_entries (recovered_left l.recovered recovered))) ≡ counted 0 (length (store_entries recovered)));
}

abbrev pub decreases-members : goal.decreases-members
decreases-members l = recovered_work l.recovered
