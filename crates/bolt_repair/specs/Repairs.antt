-- Which revisions go back into the bucket `key`: docs/RECOVERY.md, "The repaired listing". Of a recovered listing, and of the elements of all
-- found pages.
use Rattle.std.specs.Prelude.{◌≡◌, ◌≢◌, ◌↔◌, ◌⊎◌, ◌<◌, ◌≤◌, ℕ, false, List, [], ◌∷◌, Contains, Some}
use Rattle.std.specs.declared.cmp.Ordering.TheVariants.{Less}
use Rattle.bolt_lemmas.specs.Order.{Rises}
use Rattle.bolt_format.specs.Elements.{LeafElement}
use Rattle.bolt_tree.specs.{Entries.EntryView, Entries.Item, Entries.Value, Entries.entry_view, InBuckets.entry_in, InBuckets.view_cmp}
use Rattle.bolt_tree.specs.{Listing.Member, Paths.Path}
use Rattle.bolt_etcd.specs.{Store.Compacted.compacted_by, Check.Misplaced.is_misplaced, Wire.Revisions.RevisionView, Wire.Revisions.name_of}
use Rattle.bolt_etcd.specs.{Wire.Revisions.revision_of}
use Rattle.bolt_etcd.specs.{Store.BucketNames.compaction_key, Store.BucketNames.key_bucket, Store.BucketNames.meta_bucket, Store.Orders.stored_key_cmp}

-- the bucket of the revisions
abbrev pub store_path : Path
store_path = key_bucket ∷ []

-- the bucket in which the last compaction is noted
abbrev pub meta_path : Path
meta_path = meta_bucket ∷ []

-- where the last compaction is noted
abbrev pub compaction_path : Path
compaction_path = meta_bucket ∷ compaction_key ∷ []

-- something is under the name of that bucket
abbrev pub HasMeta : List Member → Type 0
HasMeta recovered = (item : Item) × Contains recovered (meta_path, item)

-- By the recovered listing `n` is the transaction of the last compaction.
abbrev pub IsCompactedAt : List Member → ℕ → Type 0
IsCompactedAt recovered n =
    ((value : List ℕ) × Contains recovered (compaction_path, Value value) × (n ≡ compacted_by (Some value)))
    ⊎ (((value : List ℕ) → Contains recovered (compaction_path, Value value) → ⊥) × (n ≡ 0))

-- the recovered bucket `key` has an entry that is this revision
abbrev pub IsKeptRevision : List Member → RevisionView → Type 0
IsKeptRevision recovered r = (e : EntryView) × Contains recovered (entry_in store_path e) × (revision_of e ≡ Some r)

-- An element of a found page whose key the recovered bucket doesn't have, and which is a revision with a record of its own transaction.
pub record IsCandidate (recovered : List Member) (found : List LeafElement) (e : EntryView) (r : RevisionView) : Type 0 where
  pub element : LeafElement
  pub is_found : Contains found element
  pub shows : entry_view element ≡ e
  pub is_revision : revision_of e ≡ Some r
  pub in_place : is_misplaced r ≡ false
  pub is_lost : (item : Item) → Contains recovered (entry_in store_path (record { key = e.key; item = item })) → ⊥

-- A candidate that isn't disputed: no other candidate has its key with another value.
pub record IsAgreed (recovered : List Member) (found : List LeafElement) (e : EntryView) (r : RevisionView) : Type 0 where
  pub candidate : IsCandidate recovered found e r
  pub undisputed : (other : EntryView) (is : RevisionView) → IsCandidate recovered found other is → other.key ≡ e.key → other ≡ e

-- A revision isn't a deletion, and no revision of its name up to this transaction is later, of those that are kept and those that are agreed.
pub record IsNewestUpTo (compacted : ℕ) (recovered : List Member) (found : List LeafElement) (r : RevisionView) : Type 0 where
  pub there : r.key.deleted ≡ false
  pub until : r.key.main ≤ compacted
  pub kept : (other : RevisionView) → IsKeptRevision recovered other → name_of other ≡ name_of r → other.key.main ≤ compacted
      → stored_key_cmp r other ≢ Less
  pub agreed : (e : EntryView) (other : RevisionView) → IsAgreed recovered found e other → name_of other ≡ name_of r → other.key.main ≤ compacted
      → stored_key_cmp r other ≢ Less

-- What goes back: it is above the last compaction, or what that keeps of its name.
abbrev pub GoesBack : ℕ → List Member → List LeafElement → EntryView → Type 0
GoesBack compacted recovered found e =
    (r : RevisionView) × IsAgreed recovered found e r × ((compacted < r.key.main) ⊎ IsNewestUpTo compacted recovered found r)

-- `back` has exactly the entries that go back, by rising key
pub record AreBack (compacted : ℕ) (recovered : List Member) (found : List LeafElement) (back : List EntryView) : Type 0 where
  pub rises : Rises view_cmp back
  pub exact : (e : EntryView) → Contains back e ↔ GoesBack compacted recovered found e
