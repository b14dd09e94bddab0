use Rattle.std.proofs.Common.{◌≡◌, ◌++◌, filter, map}
use Rattle.bolt_lemmas.specs.Order.{Rises}
use Rattle.bolt_tree.specs.{Buckets.bucket_checked, Buckets.bucket_start, Entries.entry_cmp, EntriesLeft.ForBucket}
use Rattle.bolt_etcd.specs.{Store.Crc32c.crc_begin, Store.Crc32c.crc_from, Store.CrcStates.crc_state, Store.HashKv.is_current_at}
use Rattle.bolt_etcd.specs.{Wire.ShownRevisions.shown_revision, Store.Stores.revisions}
use Rattle.bolt_etcd.specs.Store.RevisionsLeft.{ahead_of, number_ahead, pass_checked, pass_start}
use Rattle.bolt_etcd.specs.Store.BucketNames.{key_bucket}
use Rattle.bolt_etcd.proofs.SumOfEntries.{summed_bytes}
use Rattle.bolt_etcd.proofs.store.hash_kv.HashBounds.sum.Given as goal

-- what is summed of the entries ahead is still to be taken in, and the current ones of them are listed
abbrev pub invariant-rest : goal.invariant-rest
invariant-rest l = record {
  checked : pass_checked l.pass ≡ bucket_checked l.bucket;
  start : pass_start l.pass ≡ bucket_start l.bucket;
  rises : ForBucket l.bucket (λ entries. Rises entry_cmp (ahead_of l.pass entries));
  listed : ForBucket l.bucket
      (λ entries. map shown_revision l.listed ≡ filter (is_current_at l.self.up_to (revisions entries)) (revisions (ahead_of l.pass entries)));
  sum : ForBucket l.bucket (λ entries. crc_from (crc_state l.sum) (summed_bytes l.self.up_to l.self.compacted entries (ahead_of l.pass entries))
      ≡ crc_from crc_begin (key_bucket ++ summed_bytes l.self.up_to l.self.compacted entries entries));
}

abbrev pub decreases-rest : goal.decreases-rest
decreases-rest l = number_ahead l.pass
