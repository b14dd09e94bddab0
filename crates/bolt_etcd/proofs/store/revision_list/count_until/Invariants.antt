use Rattle.std.proofs.Common.{◌≡◌, ◌<◌, ◌^◌, length}
use Rattle.bolt_check.specs.Counts.{counted}
use Rattle.bolt_etcd.specs.{Store.Newest.until, Store.RevisionsLeft.ahead_of, Store.RevisionsLeft.number_ahead, Store.Stores.revisions}
use Rattle.bolt_tree.specs.EntriesLeft.{ForBucket}
use Rattle.bolt_etcd.proofs.RevisionLoops.{Passed}
use Rattle.bolt_etcd.proofs.store.revision_list.count_until.Given as goal

-- those so far, and those ahead, are all
abbrev pub invariant-rest : goal.invariant-rest
invariant-rest l = record {
  passed : Passed l.bucket l.revisions;
  fits : l.n < 2 ^ 64;
  all : ForBucket l.bucket
      (λ entries. counted l.n (length (until l.up_to (revisions (ahead_of l.revisions entries)))) ≡ counted 0 (length (until l.up_to (revisions entries))));
}

abbrev pub decreases-rest : goal.decreases-rest
decreases-rest l = number_ahead l.revisions
