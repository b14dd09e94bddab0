-- How many items open runs hold, as the code counts them. Those of a bucket hold the items of its leaf, and the pages in the runs above. Those
-- of a pass are the runs of each waiting bucket, and of the open one.
use Rattle.std.specs.Prelude.{◌≡◌, ℕ, ◌+◌, List, [], ◌∷◌, length, max, sum_by}
use Rattle.bolt_bulk.specs.{declared.branch_run.BranchRun.BranchRun, declared.bucket_runs.BucketRuns.BucketRuns, declared.pass.Pass.Pass}
use Rattle.bolt_bulk.specs.{declared.waiting_bucket.WaitingBucket.WaitingBucket}
use Rattle.bolt_check.specs.Counts.{saturated}

abbrev pub items_above : List BranchRun → ℕ
items_above uppers = sum_by (λ run. length run.elements.items) uppers

abbrev pub items_in : BucketRuns → ℕ
items_in bucket = length bucket.leaves.items.items + items_above bucket.uppers.runs.items

abbrev pub items_around : List WaitingBucket → ℕ
items_around [] = 0
items_around (waiting ∷ others) = items_in waiting.bucket + items_around others

abbrev pub items_by : Pass → ℕ
items_by pass = items_around pass.waiting.items + items_in pass.bucket

-- the code knows of each waiting bucket how many items the buckets around it hold; the outermost comes first, with `before` around it
abbrev pub AreCounted : ℕ → List WaitingBucket → Type 0
AreCounted before [] = Unit {0}
AreCounted before (waiting ∷ others) = (waiting.around ≡ saturated before) × AreCounted (before + items_in waiting.bucket) others

-- what a pass holds now is counted, and nothing else of it changes
pub record Counts (old new : Pass) : Type 0 where
  pub most : new.most ≡ max old.most (saturated (items_by old))
  pub rest : new ≡ record old { most = new.most }
