-- The limits of rows, as the code keeps them: only of the rows that have one.
use Rattle.std.specs.Prelude.{◌≡◌, ◌⊎◌, ℕ, suc, true, false, None, List, Option, length, map}
use Rattle.std.specs.{BTreeMap.get, Ordering.nat_cmp, Ordering.ordering_then, declared.cmp.Ordering.Ordering}
use Rattle.bolt_bulk.specs.{declared.branch_run.BranchRun.BranchRun, declared.limits.BucketLimits.BucketLimits, declared.limits.Limits.Limits}
use Rattle.bolt_bulk.specs.{declared.noted_limits.NotedLimits.NotedLimits}
use Rattle.bolt_bulk.specs.declared.upper_runs.UpperRuns.{UpperRuns}
use Rattle.bolt_layout.specs.Limits.{limit_at, limits_from_ends}

abbrev pub row_cmp : (ℕ × ℕ) → (ℕ × ℕ) → Ordering
row_cmp a b = ordering_then (nat_cmp a.0 b.0) (nat_cmp a.1 b.1)

-- how many runs may begin after the first of the row of this level of a bucket
abbrev pub limit_in : Limits → (bucket level : ℕ) → Option ℕ
limit_in limits bucket level = get row_cmp limits.rows (bucket, level)

abbrev pub bucket_limit : BucketLimits → (level : ℕ) → Option ℕ
bucket_limit limits level = limit_in limits.all.now limits.bucket level

-- row `l` of bucket `b` is the row of another bucket, or of another level
abbrev pub IsOtherRow : (bucket level b l : ℕ) → Type 0
IsOtherRow bucket level b l = (b ≡ bucket → ⊥) ⊎ (l ≡ level → ⊥)

-- what an open run says of its row: how many runs it has, and how many items the last one has, with the page that is under way
abbrev pub run_end : BranchRun → ℕ × ℕ
run_end run = (suc run.closed, suc (length run.elements.items))

-- the limits of a bucket that ends with these open runs, if it has none yet
abbrev pub NotesRows : (old new : Limits) → (bucket : ℕ) → List BranchRun → Type 0
NotesRows old new bucket runs =
    ((level : ℕ) → limit_in old bucket level ≡ None) → (level : ℕ) → limit_in new bucket level ≡ limit_at (limits_from_ends false (map run_end runs)) level

-- what is noted when a bucket ends with these open runs
pub record BucketEnds (old new : NotedLimits) (uppers : UpperRuns) : Type 0 where
  pub same : new.notes ≡ old.notes
  pub noted : old.notes ≡ true → NotesRows old.limits new.limits uppers.limits.bucket uppers.runs.items
  pub others : (b level : ℕ) → (b ≡ uppers.limits.bucket → ⊥) → limit_in new.limits b level ≡ limit_in old.limits b level
