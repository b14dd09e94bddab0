-- An open bucket, as the code keeps it: the run of items of its leaf under way, and the runs of pages above.
use Rattle.std.specs.Prelude.{◌≡◌, ◌<◌, ℕ, ◌+◌, length}
use Rattle.std.specs.List.{AllByRecursion}
use Rattle.bolt_format.specs.Elements.{BranchElement}
use Rattle.bolt_layout.specs.Levels.{overflow_of}
use Rattle.bolt_bulk.specs.{Private.FormatLimits.length_end, Private.BranchRuns.IsStanding, Private.BranchRuns.runs_above}
use Rattle.bolt_bulk.specs.{Private.BranchRuns.runs_end_next}
use Rattle.bolt_bulk.specs.Private.HeldItems.{HoldsLeaves, held_views, inlined_in, page_size_of}
use Rattle.bolt_bulk.specs.{Private.RunViews.LeafRunView, Private.RunViews.BucketRunsView, Private.RunViews.leaf_key}
use Rattle.bolt_bulk.specs.{declared.leaf_run.LeafRun.LeafRun, declared.bucket_runs.BucketRuns.BucketRuns}

-- the view of a run of items
abbrev pub leaf_run_view : LeafRun → LeafRunView
leaf_run_view run = record { elements = held_views run.inlined.items run.items.items; size = run.size }

-- the size of a run of items is that of its leaf page, and its list of entries has only those of its own inline buckets
pub record IsLeafRun (run : LeafRun) : Type 0 where
  pub held : HoldsLeaves run.inlined.items run.items.items
  pub sized : run.size ≡ page_size_of run.inlined.items run.items.items
  pub small : run.size < length_end
  pub few : length run.items.items < 65535
  pub inlined : length run.inlined.items ≡ inlined_in run.items.items

-- an item of this size can be added
pub record HasRoomFor (run : LeafRun) (size : ℕ) : Type 0 where
  pub small : run.size + size < length_end
  pub few : length run.items.items < 65534

-- what is open of a bucket, with the number of the next page
abbrev pub bucket_runs : BucketRuns → ℕ → BucketRunsView
bucket_runs bucket next =
    record { leaves = leaf_run_view bucket.leaves; uppers = runs_above bucket.uppers.runs.items; limits = bucket.uppers.limits; next = next }

pub record IsOpenBucket (bucket : BucketRuns) : Type 0 where
  pub leaves : IsLeafRun bucket.leaves
  pub uppers : AllByRecursion IsStanding (runs_above bucket.uppers.runs.items)

-- the element of a leaf page that closes
abbrev pub leaf_closed : LeafRunView → ℕ → BranchElement
leaf_closed run next = record { key = leaf_key run.elements; child = next }

-- the number after the bucket's root page
abbrev pub bucket_end_next : ℕ → BucketRunsView → ℕ
bucket_end_next page_size runs =
    runs_end_next page_size (leaf_closed runs.leaves runs.next) (runs.next + (1 + overflow_of page_size runs.leaves.size)) runs.uppers
