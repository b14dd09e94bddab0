-- A revision of a later transaction than the last compaction is taken away from a list of revisions, and all others are left.
use Rattle.std.specs.Prelude.{◌≡◌, ◌<◌, ◌∷◌, ◌++◌, ℕ, IsTrue, List, None, Some, find}
use Rattle.std.specs.List.{Contains}
use Rattle.bolt_etcd.specs.{Check.NameFaults.NameFaultView, Store.Newest.is_named, Store.Newest.newest, Store.Newest.value_if}
use Rattle.bolt_etcd.specs.{Wire.Revisions.RevisionView, Wire.Revisions.name_of}

pub record IsTaken (compacted : ℕ) (rs : List RevisionView) (r : RevisionView) (left : List RevisionView) : Type 0 where
  pub above : compacted < r.key.main
  pub before : List RevisionView
  pub after : List RevisionView
  pub there : rs ≡ before ++ r ∷ after
  pub gone : left ≡ before ++ after

-- the next revision of its name shows that a revision is missing, unless the next one is a deletion, and a put comes before both
pub record IsShownBy (next r : RevisionView) (before after : List RevisionView) : Type 0 where
  pub next_of_name : find (is_named (name_of r)) after ≡ Some next
  pub not_after_put : IsTrue next.key.deleted → value_if (newest (name_of r) before) ≡ None

-- a fault reports that the revision before this one is missing
abbrev pub ReportsOneBefore : RevisionView → List NameFaultView → Type 0
ReportsOneBefore r faults = (f : NameFaultView) × Contains faults f × (f.revision ≡ r) × IsTrue f.one_before
