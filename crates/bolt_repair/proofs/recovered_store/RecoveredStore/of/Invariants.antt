use Rattle.std.proofs.Common.{List, map, ◌++◌, ◌≡◌}
use Rattle.bolt_tree.specs.{Listing.Member}
use Rattle.bolt_recover.specs.Recovered.{ForRecovered}
use Rattle.bolt_recover.specs.RecoveredMembers.{recovered_file, recovered_left, recovered_meta, recovered_work}
use Rattle.bolt_recover.specs.{Recovered.IsRecovered}
use Rattle.bolt_etcd.specs.Wire.ShownRevisions.{entry_of}
use Rattle.bolt_repair.specs.RecoveredStores.{IsStoreNoted}
use Rattle.bolt_repair.proofs.recovered_store.RecoveredStore.of.Given as goal

-- the members so far, which the store is of, and those that are left are all
abbrev pub invariant-members : goal.invariant-members
invariant-members l = record {
  reads : ForRecovered l.searched.file.now l.searched.meta (λ listing. IsRecovered (recovered_file l.recovered) (recovered_meta l.recovered) listing);
  noted : ForRecovered l.searched.file.now l.searched.meta (λ listing.
      (before : List Member) × (before ++ recovered_left l.recovered listing ≡ listing) × IsStoreNoted before (map entry_of l.candidates) l.store);
}

abbrev pub decreases-members : goal.decreases-members
decreases-members l = recovered_work l.recovered
