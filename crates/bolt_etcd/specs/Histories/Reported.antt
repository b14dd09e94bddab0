-- What the missing numbers report: exactly the transactions that aren't there, of those after a compaction and before the last one.
use Rattle.std.specs.Prelude.{◌≢◌, ◌<◌, ◌≤◌, ◌⊎◌, ℕ, List, [], ◌∷◌, max}
use Rattle.std.specs.{List.Contains, declared.cmp.Ordering.Ordering}
use Rattle.bolt_etcd.specs.{Wire.RevisionKeys.numbers_cmp, Wire.Revisions.RevisionView, declared.check.missing.Missing.Missing}
use Rattle.bolt_etcd.specs.declared.check.missing.Missing.TheVariants.{Revisions, Transactions}

abbrev pub number_cmp : RevisionView → RevisionView → Ordering
number_cmp a b = numbers_cmp a.key b.key

abbrev pub HasNumber : ℕ → Missing → Type 0
HasNumber t (Transactions first last) = (first ≤ t) × (t ≤ last)
HasNumber t (Revisions main first last) = ⊥

-- one of the missing numbers reports that a transaction is missing
abbrev pub IsReported : ℕ → List Missing → Type 0
IsReported t [] = ⊥
IsReported t (m ∷ ms) = HasNumber t m ⊎ IsReported t ms

-- no revision of the list is of this transaction
abbrev pub HasNoneOf : ℕ → List RevisionView → Type 0
HasNoneOf t rs = (r : RevisionView) → Contains rs r → r.key.main ≢ t

-- a transaction is missing: it is after the compaction, a later one is there, and none of its revisions is
pub record IsMissing (compacted t : ℕ) (rs : List RevisionView) : Type 0 where
  pub after : max compacted 1 < t
  pub later : RevisionView
  pub there : Contains rs later
  pub before : t < later.key.main
  pub none : HasNoneOf t rs
