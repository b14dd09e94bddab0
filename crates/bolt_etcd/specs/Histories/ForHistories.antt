-- What laws of histories hold of.
use Rattle.std.specs.Prelude.{ℕ, Bool, List}
use Rattle.std.specs.List.{Contains}
use Rattle.bolt_lemmas.specs.Order.{Rises}
use Rattle.bolt_etcd.specs.{Histories.Compactions.IsCompaction, Histories.Compactions.kept_revisions, Histories.Transactions.Transaction}
use Rattle.bolt_etcd.specs.{Check.MissingNumbers.missing_numbers, Histories.Possible.ArePossible}
use Rattle.bolt_etcd.specs.{Wire.Revisions.RevisionView, Histories.Taken.IsTaken, Histories.Reported.number_cmp, declared.check.missing.Missing.Missing}

-- a property holds of transactions that etcd can do, of one that they were compacted at, and of the revisions that are kept
abbrev pub ForCompacted : (List Transaction → ℕ → List RevisionView → Type 0) → Type 0
ForCompacted P = (ts : List Transaction) (compacted : ℕ) (keeps : RevisionView → Bool) → ArePossible ts → IsCompaction compacted ts keeps
    → P ts compacted (kept_revisions keeps ts)

-- A property holds of a revision taken away from the kept ones, of each other revision, of all that are left, and of what these lack by number.
abbrev pub ForTaken : ((r later : RevisionView) → List RevisionView → List Missing → Type 0) → Type 0
ForTaken P = (ts : List Transaction) (compacted : ℕ) (keeps : RevisionView → Bool) (r later : RevisionView) (left : List RevisionView)
    → ArePossible ts → IsTaken compacted (kept_revisions keeps ts) r left → Contains left later → P r later left (missing_numbers compacted left)

-- a property holds of revisions in the order of their numbers, after a compaction at a transaction, and of what they lack by number
abbrev pub ForNumbered : (ℕ → List RevisionView → List Missing → Type 0) → Type 0
ForNumbered P = (compacted : ℕ) (rs : List RevisionView) → Rises number_cmp rs → P compacted rs (missing_numbers compacted rs)
