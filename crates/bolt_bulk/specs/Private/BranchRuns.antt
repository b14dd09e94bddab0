-- The runs of pages above a bucket's leaves, as the code keeps them, and a run that takes the page below it.
use Rattle.std.specs.Prelude.{◌≡◌, ◌≤◌, ◌<◌, ℕ, ◌+◌, ◌*◌, true, List, [], ◌∷◌, map, length, Option, Some, None, if◌then◌else◌}
use Rattle.bolt_format.specs.{ElementPlaces.branch_view, Elements.BranchElement}
use Rattle.bolt_layout.specs.{Laid.Placed, Limits.is_out, Limits.one_less, Levels.overflow_of, PageBytes.branch_data}
use Rattle.bolt_bulk.specs.{Private.FormatLimits.longest_key, Private.OpenRuns.key_size}
use Rattle.bolt_bulk.specs.Private.RunViews.{RunView, no_run, one_closed, run_kept, run_key, run_page, run_push, run_stays}
use Rattle.bolt_bulk.specs.declared.branch_run.BranchRun.{BranchRun}

-- the view of a run
abbrev pub run_view : BranchRun → RunView
run_view run = record { elements = map branch_view run.elements.items; size = run.size; allowed = run.allowed; closed = run.closed }

abbrev pub runs_above : List BranchRun → List RunView
runs_above runs = map run_view runs

-- the size of a run of pages is that of the branch page that it becomes
abbrev pub IsSizedRun : RunView → Type 0
IsSizedRun run = run.size ≡ 16 + (16 * length run.elements + length (branch_data run.elements))

-- A run has room for one more element, as large as any; and for two if one may join for which it has no room. All sizes still fit 32 bits.
pub record HasSlack (run : RunView) : Type 0 where
  pub small : run.size ≤ 1073741856
  pub few : length run.elements < 65534

pub record IsStanding (run : RunView) : Type 0 where
  pub sized : IsSizedRun run
  pub small : run.size ≤ 2147483696
  pub few : length run.elements < 65535
  pub named : length (run_key run.elements) ≤ longest_key
  pub slack : is_out run.allowed ≡ true → HasSlack run

-- A run that has taken one more element than it may stand with still fits a page.
pub record IsPushed (run : RunView) : Type 0 where
  pub sized : IsSizedRun run
  pub some : 0 < length run.elements
  pub small : run.size ≤ 3221225536
  pub few : length run.elements < 65536

-- A run takes the element of a page that has closed, and the next page has this first key: the run, what is written, the next number, and
-- the element of the run's own page if it closes.
abbrev pub run_taking : ℕ → List ℕ → BranchElement → RunView → RunView
run_taking page_size key e run =
    if run_stays page_size (run_push run e) (key_size key) then run_kept page_size (run_push run e) (key_size key)
    else no_run (one_less run.allowed) (one_closed run.closed)

abbrev pub taking_puts : ℕ → List ℕ → BranchElement → ℕ → RunView → List Placed
taking_puts page_size key e next run = if run_stays page_size (run_push run e) (key_size key) then [] else run_page page_size (run_push run e) next ∷ []

abbrev pub taking_next : ℕ → List ℕ → BranchElement → ℕ → RunView → ℕ
taking_next page_size key e next run =
    if run_stays page_size (run_push run e) (key_size key) then next else next + (1 + overflow_of page_size (run_push run e).size)

-- the element of the page over a run, with the next number
abbrev pub own_element : RunView → ℕ → BranchElement
own_element run next = record { key = run_key run.elements; child = next }

abbrev pub element_up : BranchElement → ℕ → RunView → BranchElement
element_up e next run = own_element (run_push run e) next

abbrev pub taking_up : ℕ → List ℕ → BranchElement → ℕ → RunView → Option BranchElement
taking_up page_size key e next run = if run_stays page_size (run_push run e) (key_size key) then None else Some (element_up e next run)

-- the number after a bucket's root page
abbrev pub runs_end_next : ℕ → BranchElement → ℕ → List RunView → ℕ
runs_end_next page_size e next [] = next
runs_end_next page_size e next (run ∷ runs) = runs_end_next page_size (element_up e next run) (next + (1 + overflow_of page_size (run_push run e).size)) runs
