-- A store from which nothing is missing.
use Rattle.std.specs.Prelude.{◌≡◌, ◌≢◌, ℕ, IsSome, IsTrue, List, Some, map}
use Rattle.std.specs.List.{Contains}
use Rattle.bolt_check.specs.Keys.{Key}
use Rattle.bolt_format.specs.Elements.{LeafElement}
use Rattle.bolt_tree.specs.Entries.{entry_view}
use Rattle.bolt_etcd.specs.{Histories.Transactions.Transaction, Histories.Transactions.state_after, Check.NameFaults.AreByName}
use Rattle.bolt_etcd.specs.{Wire.Revisions.RevisionView, Wire.Revisions.revision_of}
use Rattle.bolt_etcd.specs.{Store.StoreBuckets.StoreView, Check.StoreFaults.store_compacted}
use Rattle.bolt_etcd.specs.{Check.StoreFaults.store_granted}
use Rattle.bolt_etcd.specs.Store.BucketNames.{bucket_names, key_bucket}

-- A store has each bucket of etcd's, and was compacted at this transaction, or never if it is 0. The entries of its bucket `key` are the revisions
-- `rs`.
pub record HoldsExactly (store : StoreView) (compacted : ℕ) (rs : List RevisionView) : Type 0 where
  pub buckets : (name : Key) → Contains bucket_names name → IsSome (store.bucket name)
  pub compacted_at : store_compacted store ≡ Some compacted
  pub entries : List LeafElement
  pub under_key : store.bucket key_bucket ≡ Some entries
  pub revisions : map (λ e. revision_of (entry_view e)) entries ≡ map Some rs
  pub sorted : AreByName rs store.by_name

-- each lease that a name has after these transactions is there; lease 0 is none
abbrev pub GrantsLeases : StoreView → List Transaction → Type 0
GrantsLeases store ts =
    (name : Key) (r : RevisionView) → state_after ts name ≡ Some r → r.content.lease ≢ 0 → IsTrue (store_granted store r.content.lease)
