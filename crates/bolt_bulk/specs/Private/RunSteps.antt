-- What a step of a bucket's open runs does: the pages that it writes, what is open then, and the number of the next page.
use Rattle.std.specs.Prelude.{◌≡◌, ℕ, List, [], ◌∷◌, Option, Result, IfOk, OnOk, length, option_map}
use Rattle.bolt_format.specs.{ElementPlaces.branch_view, Elements.BranchElement, Elements.LeafElement, declared.element.Branch.Branch}
use Rattle.bolt_format.specs.{declared.sink.Sink.Ghosts}
use Rattle.bolt_layout.specs.Laid.{Placed}
use Rattle.bolt_bulk.specs.Private.BranchRuns.{own_element, run_taking, run_view, runs_above, runs_end_next, taking_next, taking_puts, taking_up}
use Rattle.bolt_bulk.specs.{Private.OpenBuckets.bucket_end_next, Private.OpenBuckets.bucket_runs, Private.OpenBuckets.leaf_closed}
use Rattle.bolt_bulk.specs.{Private.PagesWritten.Closes, Private.PagesWritten.Writes}
use Rattle.bolt_bulk.specs.Private.RowLimits.{bucket_limit}
use Rattle.bolt_bulk.specs.Private.RunViews.{BucketRunsView, LeafRunView, RunView, leaf_page, run_page, runs_climb, runs_close_put, runs_end}
use Rattle.bolt_bulk.specs.Private.RunViews.{runs_end_put, runs_next, runs_push, runs_put, runs_room, runs_room_put, runs_root}
use Rattle.bolt_bulk.specs.{Private.TakenItems.element_size, Private.TakenItems.root_element, Private.TakenItems.root_size}
use Rattle.bolt_bulk.specs.{Private.TakenItems.runs_taking, declared.branch_run.BranchRun.BranchRun}
use Rattle.bolt_bulk.specs.{declared.bucket_runs.BucketRuns.BucketRuns, declared.bulk_fault.BulkFault.BulkFault, Private.Writers.next_after}
use Rattle.bolt_bulk.specs.{declared.page_writer.PageWriter.PageWriter}
use Rattle.bolt_bulk.specs.{declared.upper_runs.UpperRuns.UpperRuns, declared.pending_bucket.PendingBucket.PendingBucket}
use Rattle.bolt_bulk.specs.{declared.waiting_bucket.WaitingBucket.WaitingBucket}

-- a bucket has one item more, whatever the numbers of its pages are
abbrev pub Pushes : (before after : BucketRuns) → LeafElement → (size : ℕ) → Type 0
Pushes before after e size = (number next : ℕ) → bucket_runs after next ≡ runs_push (bucket_runs before number) e size next

-- A writer goes from its state `old` to `new`.
module _ {S : Type 0} (sink : Ghosts S) (old new : PageWriter S) where
  abbrev P : ℕ
  P = old.setup.page_size

  abbrev WritesRow : {A : Type 0} → List Placed → (high_water : ℕ) → Result A BulkFault → Type 0
  WritesRow row high_water result = Writes sink old.sink.now new.sink.now old.setup row high_water result

  abbrev ClosesRow : {A : Type 0} → List Placed → (high_water : ℕ) → Result A BulkFault → Type 0
  ClosesRow row high_water result = Closes sink old.sink.now new.sink.now old.setup row high_water new.next result

  -- a run of pages closes, and the element of its page is returned
  pub record ClosesRun (run : RunView) (result : Result Branch BulkFault) : Type 0 where
    pub closes : ClosesRow (run_page P run old.next ∷ []) (next_after old run.size) result
    pub up : IfOk result (λ up. branch_view up ≡ own_element run old.next)

  -- a run of items of a leaf closes, and the element of its page is returned
  pub record ClosesLeaf (run : LeafRunView) (result : Result Branch BulkFault) : Type 0 where
    pub closes : ClosesRow (leaf_page P run old.next ∷ []) (next_after old run.size) result
    pub up : IfOk result (λ up. branch_view up ≡ leaf_closed run old.next)

  -- A run takes the element of a page that has closed. The next page has this first key; if the run has no room for it, the run closes.
  pub record TakesPage (key : List ℕ) (closed : BranchElement) (before after : BranchRun) (result : Result (Option Branch) BulkFault) : Type 0 where
    pub writes : WritesRow (taking_puts P key closed old.next (run_view before)) (taking_next P key closed old.next (run_view before)) result
    pub run : OnOk result (run_view after ≡ run_taking P key closed (run_view before))
    pub marked : OnOk result (new.next ≡ taking_next P key closed old.next (run_view before))
    pub up : IfOk result (λ up. option_map branch_view up ≡ taking_up P key closed old.next (run_view before))

  -- the element goes up as long as runs close
  pub record Climbs {A : Type 0} (key : List ℕ) (closed : BranchElement) (before after : UpperRuns) (result : Result A BulkFault) : Type 0 where
    pub writes : WritesRow (runs_put P key closed old.next (runs_above before.runs.items))
        (runs_next P key closed old.next (runs_above before.runs.items)) result
    pub runs : OnOk result (runs_above after.runs.items
        ≡ runs_climb P (bucket_limit before.limits (length (runs_above before.runs.items))) key closed old.next (runs_above before.runs.items))
    pub limits : OnOk result (after.limits ≡ before.limits)
    pub marked : OnOk result (new.next ≡ runs_next P key closed old.next (runs_above before.runs.items))

  -- all runs above a leaf close, and the number of the root page is returned
  pub record ClosesAbove (closed : BranchElement) (runs : List RunView) (result : Result ℕ BulkFault) : Type 0 where
    pub closes : ClosesRow (runs_close_put P closed old.next runs) (runs_end_next P closed old.next runs) result
    pub root : IfOk result (λ root. root ≡ runs_root P closed old.next runs)

  -- the runs of a bucket close, up to the root page
  abbrev pub ClosesRuns : {A : Type 0} → (bucket : BucketRuns) → Result A BulkFault → Type 0
  ClosesRuns bucket result = ClosesRow (runs_end_put P (bucket_runs bucket old.next)) (bucket_end_next P (bucket_runs bucket old.next)) result

  -- the runs of a bucket close, and the number of its root page is returned
  pub record ClosesBucket (bucket : BucketRuns) (result : Result ℕ BulkFault) : Type 0 where
    pub closes : ClosesRuns bucket result
    pub root : IfOk result (λ root. root ≡ runs_end P (bucket_runs bucket old.next))

  -- what is written to make room for an item of this key and size
  abbrev pub WritesRoom : {A : Type 0} → BucketRunsView → (key : List ℕ) → (size : ℕ) → Result A BulkFault → Type 0
  WritesRoom runs key size result = WritesRow (runs_room_put P runs key size) (runs_room P runs key size).next result

  -- room is made
  pub record MakesRoom {A : Type 0} (before : BucketRuns) (key : List ℕ) (size : ℕ) (after : BucketRuns) (result : Result A BulkFault) : Type 0 where
    pub writes : WritesRoom (bucket_runs before old.next) key size result
    pub runs : OnOk result (bucket_runs after new.next ≡ runs_room P (bucket_runs before old.next) key size)

  -- an item is added, after room was made for it
  pub record TakesItem {A : Type 0} (before : BucketRuns) (e : LeafElement) (after : BucketRuns) (result : Result A BulkFault) : Type 0 where
    pub writes : WritesRoom (bucket_runs before old.next) e.key (element_size e) result
    pub runs : OnOk result (bucket_runs after new.next ≡ runs_taking P (bucket_runs before old.next) e (element_size e))

  -- a bucket waits for one within it, after it made room for that one
  pub record Enters (before : BucketRuns) (pending : PendingBucket) (around : ℕ) (result : Result WaitingBucket BulkFault) : Type 0 where
    pub writes : WritesRoom (bucket_runs before old.next) pending.key.now (root_size pending.key.now) result
    pub runs : IfOk result
        (λ waiting. bucket_runs waiting.bucket new.next ≡ runs_room P (bucket_runs before old.next) pending.key.now (root_size pending.key.now))
    pub key : IfOk result (λ waiting. waiting.key.now ≡ pending.key.now)
    pub sequence : IfOk result (λ waiting. waiting.sequence ≡ pending.sequence)
    pub around_is : IfOk result (λ waiting. waiting.around ≡ around)

  -- the bucket within ends, and the one around it takes its item
  pub record EndsInner {A : Type 0} (outer : BucketRuns) (key : List ℕ) (sequence : ℕ) (inner after : BucketRuns) (result : Result A BulkFault) : Type 0 where
    pub closes : ClosesRuns inner result
    pub runs : OnOk result ((before : ℕ) → bucket_runs after new.next
        ≡ runs_push (bucket_runs outer before) (root_element key (runs_end P (bucket_runs inner old.next)) sequence)
        (root_size key) (bucket_end_next P (bucket_runs inner old.next)))
