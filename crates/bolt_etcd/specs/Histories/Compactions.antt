-- What a compaction keeps of a history. It keeps all later revisions, and what each name held after its own transaction. Of the other revisions
-- it removes the older ones of a name first, but maybe not all: new versions of etcd keep a deletion in its own transaction, and it may have
-- been interrupted.
use Rattle.std.specs.Prelude.{◌≡◌, ◌<◌, ℕ, Bool, IsTrue, List, Some, filter, false, Option, None, bytes_eq, nat_lt, not, ◌==◌, ◌&&◌, ◌||◌}
use Rattle.std.specs.{List.Contains, declared.cmp.Ordering.TheVariants.Less}
use Rattle.bolt_check.specs.Keys.{Key}
use Rattle.bolt_etcd.specs.{Histories.Transactions.Transaction, Histories.Transactions.history}
use Rattle.bolt_etcd.specs.Store.Orders.{stored_key_cmp}
use Rattle.bolt_etcd.specs.{Histories.Transactions.state_at, Wire.Revisions.RevisionView, Wire.Revisions.name_of}
use Rattle.bolt_etcd.specs.{Store.Newest.newest, Store.Newest.until}

-- What a compaction at transaction `compacted` keeps: the later revisions, the current ones, and of one name each that comes after a kept one.
pub record IsCompaction (compacted : ℕ) (ts : List Transaction) (keeps : RevisionView → Bool) : Type 0 where
  pub later : (r : RevisionView) → Contains (history ts) r → compacted < r.key.main → IsTrue (keeps r)
  pub live_of : (name : Key) (r : RevisionView) → state_at compacted ts name ≡ Some r → IsTrue (keeps r)
  pub oldest_first : (a b : RevisionView) → Contains (history ts) a → Contains (history ts) b → name_of a ≡ name_of b → stored_key_cmp a b ≡ Less
      → IsTrue (keeps a) → IsTrue (keeps b)

-- the revisions that are there after a compaction
abbrev pub kept_revisions : (RevisionView → Bool) → List Transaction → List RevisionView
kept_revisions keeps ts = filter keeps (history ts)

-- ---- what etcd keeps

abbrev pub is_same_revision : RevisionView → Option RevisionView → Bool
is_same_revision r None = false
is_same_revision r (Some other) = bytes_eq other.stored_key r.stored_key

-- Which revisions etcd keeps in a compaction: all later ones, and of each name the newest one up to the compaction's transaction, unless that is
-- a deletion. New versions of etcd keep a deletion of that transaction itself.
abbrev pub etcd_keeps : (new : Bool) (compacted : ℕ) → List RevisionView → RevisionView → Bool
etcd_keeps new compacted rs r =
    nat_lt compacted r.key.main
    || (is_same_revision r (newest (name_of r) (until compacted rs)) && (not r.key.deleted || (new && (r.key.main == compacted))))
