use Rattle.std.proofs.Common.{◌≡◌, None, filter}
use Rattle.std.specs.{List.last_or, Option.option_map}
use Rattle.bolt_etcd.specs.{Store.Newest.is_of, Store.RevisionsLeft.ahead_of, Store.RevisionsLeft.number_ahead, Wire.ShownRevisions.shown_revision}
use Rattle.bolt_etcd.specs.{Store.Stores.revisions}
use Rattle.bolt_tree.specs.EntriesLeft.{ForBucket}
use Rattle.bolt_etcd.proofs.RevisionLoops.{Passed}
use Rattle.bolt_etcd.proofs.store.newest.Newest.find.Given as goal

-- the last of the revisions ahead, or else the one that was found, is the last of all
abbrev pub invariant-rest : goal.invariant-rest
invariant-rest l = record {
  passed : Passed l.bucket l.revisions;
  last : ForBucket l.bucket
      (λ entries. last_or (option_map shown_revision l.revision) (filter (is_of l.name l.up_to) (revisions (ahead_of l.revisions entries)))
      ≡ last_or None (filter (is_of l.name l.up_to) (revisions entries)));
}

abbrev pub decreases-rest : goal.decreases-rest
decreases-rest l = number_ahead l.revisions
