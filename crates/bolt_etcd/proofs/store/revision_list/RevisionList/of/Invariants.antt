use Rattle.std.proofs.Common.{◌≡◌, ◌++◌, map}
use Rattle.bolt_etcd.specs.{Store.Newest.until, Store.RevisionsLeft.ahead_of, Store.RevisionsLeft.number_ahead, Wire.ShownRevisions.shown_revision}
use Rattle.bolt_etcd.specs.{Store.Stores.revisions}
use Rattle.bolt_tree.specs.EntriesLeft.{ForBucket}
use Rattle.bolt_etcd.proofs.RevisionLoops.{Passed}
use Rattle.bolt_etcd.proofs.store.revision_list.RevisionList.of.Given as goal

-- those so far, and those ahead, are all
abbrev pub invariant-rest : goal.invariant-rest
invariant-rest l = record {
  passed : Passed l.bucket l.revisions;
  all : ForBucket l.bucket
      (λ entries. map shown_revision l.collected.items ++ until l.up_to (revisions (ahead_of l.revisions entries)) ≡ until l.up_to (revisions entries));
}

abbrev pub decreases-rest : goal.decreases-rest
decreases-rest l = number_ahead l.revisions
