-- What goes back of the agreed candidates: docs/RECOVERY.md, "The repaired listing".
use Rattle.std.specs.Prelude.{◌≡◌, ◌↔◌, ◌||◌, ◌++◌, ℕ, Bool, List, filter, map, not}
use Rattle.std.specs.List.{Contains, filter_map}
use Rattle.bolt_tree.specs.Entries.{EntryView}
use Rattle.bolt_etcd.specs.{Store.Current.HaveOwnKeys, Store.Current.IsCurrentAmong, Store.HashKv.passes, Store.Newest.is_until, Store.Newest.until}
use Rattle.bolt_repair.specs.Candidates.{among}
use Rattle.bolt_etcd.specs.{Wire.Revisions.RevisionView, Wire.Revisions.revision_of}

-- the old ones of those that are kept and those that are agreed: a compaction at this transaction may have removed them
abbrev pub old_revisions : ℕ → (kept : List RevisionView) → (agreed : List EntryView) → List RevisionView
old_revisions compacted kept agreed = until compacted (kept ++ filter_map revision_of agreed)

-- `newest` has exactly the newest revision of each name in `old`, if that isn't a deletion
abbrev pub AreTheNewest : (old newest : List RevisionView) → Type 0
AreTheNewest old newest = HaveOwnKeys old → (r : RevisionView) → Contains newest r ↔ IsCurrentAmong old r

-- an entry isn't an old revision, or it is one of the newest
abbrev pub goes_back : ℕ → (newest : List RevisionView) → EntryView → Bool
goes_back compacted newest e = not (passes (is_until compacted) (revision_of e)) || among (map (λ r. r.stored_key) newest) e.key

-- Of the agreed ones these go back: those that aren't old, and the newest of each name among the old ones.
pub record ArePutBack (compacted : ℕ) (kept : List RevisionView) (agreed back : List EntryView) : Type 0 where
  pub newest : List RevisionView
  pub are : AreTheNewest (old_revisions compacted kept agreed) newest
  pub is : back ≡ filter (goes_back compacted newest) agreed
