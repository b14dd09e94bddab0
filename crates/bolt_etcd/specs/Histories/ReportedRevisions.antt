-- Which revisions of a transaction the missing numbers report as missing.
use Rattle.std.specs.Prelude.{◌≡◌, ◌<◌, ◌≤◌, ℕ, List}
use Rattle.std.specs.List.{Contains}
use Rattle.bolt_etcd.specs.{Wire.Revisions.RevisionView, declared.check.missing.Missing.Missing, declared.check.missing.Missing.TheVariants.Revisions}
use Rattle.bolt_etcd.specs.{declared.check.missing.Missing.TheVariants.Transactions}

-- a missing number reports revision `sub` of transaction t, as one of a transaction that is there
abbrev pub ReportsRevision : (t sub : ℕ) → Missing → Type 0
ReportsRevision t sub (Transactions first last) = ⊥
ReportsRevision t sub (Revisions main first last) = (main ≡ t) × (first ≤ sub) × (sub ≤ last)

abbrev pub IsReportedRevision : (t sub : ℕ) → List Missing → Type 0
IsReportedRevision t sub ms = (m : Missing) × Contains ms m × ReportsRevision t sub m

-- a revision is missing: its transaction is after the compaction, a later revision of that is there, and it isn't
pub record IsMissingRevision (compacted t sub : ℕ) (rs : List RevisionView) : Type 0 where
  pub after : compacted < t
  pub later : RevisionView
  pub there : Contains rs later
  pub same : later.key.main ≡ t
  pub before : sub < later.key.sub
  pub none : (r : RevisionView) → Contains rs r → r.key.main ≡ t → r.key.sub ≡ sub → ⊥
