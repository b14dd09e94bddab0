-- What etcd would report of a store.
use Rattle.std.specs.Prelude.{ℕ, ◌==◌, List, [], ◌∷◌, codes, filter, length, max, Option, Some, None, if◌then◌else◌, option_and_then}
use Rattle.byteorder.specs.Endian.{big_number}
use Rattle.bolt_format.specs.Elements.{LeafElement}
use Rattle.bolt_check.specs.{Counts.counted, Keys.Key}
use Rattle.bolt_etcd.specs.{Store.Compacted.value_under, Store.HashKv.hash_kv, Store.HashKv.hash_unless, Store.HashKv.is_current_at}
use Rattle.bolt_etcd.specs.{Wire.Numbered.numbered, Wire.Revisions.RevisionView, Store.StoreBuckets.StoreView}
use Rattle.bolt_etcd.specs.{Check.StoreFaults.store_compacted, Store.Stores.unread_elements, Store.Stores.revisions}
use Rattle.bolt_etcd.specs.{declared.store.status.StoreStatus.StoreStatus}
use Rattle.bolt_etcd.specs.Store.BucketNames.{meta_bucket}

-- the greatest number of a transaction, or 0
abbrev pub newest_main : List RevisionView → ℕ
newest_main [] = 0
newest_main (r ∷ rs) = max r.key.main (newest_main rs)

-- the greatest number of a transaction after one revision more
abbrev pub newest_with : Option RevisionView → ℕ → ℕ
newest_with None before = before
newest_with (Some r) before = max before r.key.main

-- a number of revisions, after one more
abbrev pub revisions_with : Option RevisionView → ℕ → ℕ
revisions_with None before = before
revisions_with (Some r) before = counted before 1

-- the transaction of the last compaction, or 0 if nobody knows
abbrev pub or_zero : Option ℕ → ℕ
or_zero None = 0
or_zero (Some n) = n

-- the number in eight bytes, the highest first
abbrev pub number_of_eight : List ℕ → Option ℕ
number_of_eight value = if length value == 8 then Some (big_number 8 value) else None

-- the number in the value under a key in the bucket `meta`
abbrev pub meta_number : Key → Option (List LeafElement) → Option ℕ
meta_number key meta = option_and_then (λ entries. option_and_then number_of_eight (value_under key entries)) meta

-- The store's bucket `key` has these entries. Keys and the hash are those of no later transaction.
abbrev pub store_status : (up_to : ℕ) → StoreView → List LeafElement → StoreStatus
store_status up_to store entries =
    let newest = newest_main (numbered entries) in
    let compacted = or_zero (store_compacted store) in
    record {
      revision = max newest (max compacted 1);
      newest = newest;
      compacted = compacted;
      keys = length (filter (is_current_at up_to (revisions entries)) (revisions entries));
      revisions = counted 0 (length (revisions entries));
      consistent_index = meta_number (codes "consistent_index") (store.bucket meta_bucket);
      term = meta_number (codes "term") (store.bucket meta_bucket);
      hash = hash_unless (unread_elements entries) (hash_kv up_to compacted entries);
      unread = counted 0 (length (unread_elements entries));
    }
