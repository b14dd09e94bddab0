-- The buckets of a store: what the root bucket has under their names. Over any relation that says which elements a bucket has.
use Rattle.std.specs.Prelude.{◌≡◌, false, IsTrue, List, [], Option, Some, None}
use Rattle.bolt_format.specs.Elements.{LeafElement}
use Rattle.bolt_check.specs.Keys.{Key}
use Rattle.bolt_tree.specs.{BucketViews.entries_of, Buckets.bucket_checked, Buckets.bucket_start, Entries.AreEntries, Entries.Start, Entries.start_of}
use Rattle.bolt_tree.specs.{declared.bucket.Bucket.Bucket}
use Rattle.bolt_etcd.specs.{Check.NameFaults.AreByName, Wire.Revisions.RevisionView, Store.Stores.revisions}
use Rattle.bolt_etcd.specs.Store.BucketNames.{key_bucket}

-- the bucket under a name has these entries in order; or no bucket is under it
abbrev pub HasEntriesUnder : (Start → LeafElement → Type 0) → Start → Key → Option (List LeafElement) → Type 0
HasEntriesUnder Entry root name (Some entries) =
    (e : LeafElement) × Entry root e × (e.key ≡ name) × IsTrue e.is_bucket × AreEntries Entry (start_of e.value) entries
HasEntriesUnder Entry root name None = (e : LeafElement) → Entry root e → e.key ≡ name → e.is_bucket ≡ false

-- a store: under each name the entries of the bucket, if there is one; and the revisions, name by name
pub record StoreView : Type 0 where
  pub bucket : Key → Option (List LeafElement)
  pub by_name : List RevisionView

-- the revisions of the bucket `key`, in their order
abbrev pub revisions_in : Option (List LeafElement) → List RevisionView
revisions_in None = []
revisions_in (Some entries) = revisions entries

pub record IsStore (Entry : Start → LeafElement → Type 0) (root : Start) (store : StoreView) : Type 0 where
  pub buckets : (name : Key) → HasEntriesUnder Entry root name (store.bucket name)
  pub sorted : AreByName (revisions_in (store.bucket key_bucket)) store.by_name

-- a property holds of the store with this root bucket
abbrev pub ForStore : Bucket → (StoreView → Type 0) → Type 0
ForStore root P = (store : StoreView) → IsStore (entries_of (bucket_checked root)) (bucket_start root) store → P store
