-- The open runs of a bucket as the code keeps them: the elements of each run with the numbers that their pages have, the run's size, and how
-- many runs may still begin in its row.
use Rattle.std.specs.Prelude.{ℕ, ◌+◌, Bool, ◌||◌, ◌&&◌, nat_lt, nat_le, List, [], ◌∷◌, ◌++◌, length, min, Option, None, if◌then◌else◌}
use Rattle.bolt_format.specs.Elements.{BranchElement, LeafElement}
use Rattle.bolt_layout.specs.{Cut.max_items, Laid.Placed, Limits.is_out, Limits.one_less, Levels.branch_page_view, Levels.leaf_page_view}
use Rattle.bolt_layout.specs.{Levels.overflow_of}
use Rattle.bolt_bulk.specs.{Private.OpenRuns.key_size, Private.RowLimits.bucket_limit, declared.limits.BucketLimits.BucketLimits}

pub record RunView : Type 0 where
  pub elements : List BranchElement
  pub size : ℕ
  pub allowed : Option ℕ
  pub closed : ℕ

abbrev pub no_run : (allowed : Option ℕ) → (closed : ℕ) → RunView
no_run allowed closed = record { elements = []; size = 16; allowed = allowed; closed = closed }

-- how many runs of a row have closed after one more; the count saturates at 2^64 - 1
abbrev pub one_closed : ℕ → ℕ
one_closed closed = min (closed + 1) 18446744073709551615

abbrev pub run_push : RunView → BranchElement → RunView
run_push run e = record { elements = run.elements ++ e ∷ []; size = run.size + key_size e.key; allowed = run.allowed; closed = run.closed }

abbrev pub run_has_room : ℕ → RunView → ℕ → Bool
run_has_room page_size run size = nat_lt (length run.elements) 2 || (nat_le (run.size + size) page_size && nat_lt (length run.elements) max_items)

-- whether a run stays open for the page that comes next, and as what
abbrev pub run_stays : ℕ → RunView → ℕ → Bool
run_stays page_size run size = run_has_room page_size run size || is_out run.allowed

abbrev pub run_kept : ℕ → RunView → ℕ → RunView
run_kept page_size run size =
    record { elements = run.elements; size = run.size; allowed = if run_has_room page_size run size then run.allowed else None; closed = run.closed }

abbrev pub run_key : List BranchElement → List ℕ
run_key [] = []
run_key (e ∷ elements) = e.key

-- the page over a run, with the next number
abbrev pub run_page : ℕ → RunView → ℕ → Placed
run_page page_size run next = record { number = next; view = branch_page_view (overflow_of page_size run.size) run.elements }

-- The page of this element has closed, with `next` the number after it; a page with this first key comes next.
abbrev pub runs_climb : ℕ → (new : Option ℕ) → List ℕ → BranchElement → ℕ → List RunView → List RunView
runs_climb page_size new key e next [] = run_push (no_run new 0) e ∷ []
runs_climb page_size new key e next (run ∷ runs) =
    let closes =
    no_run (one_less run.allowed) (one_closed run.closed)
    ∷ runs_climb page_size new key (record { key = run_key (run_push run e).elements; child = next })
    (next + (1 + overflow_of page_size (run_push run e).size)) runs in
    let stays = run_kept page_size (run_push run e) (key_size key) ∷ runs in
    if run_stays page_size (run_push run e) (key_size key) then stays else closes

abbrev pub runs_put : ℕ → List ℕ → BranchElement → ℕ → List RunView → List Placed
runs_put page_size key e next [] = []
runs_put page_size key e next (run ∷ runs) =
    let closes = run_page page_size (run_push run e) next
    ∷ runs_put page_size key (record { key = run_key (run_push run e).elements; child = next })
    (next + (1 + overflow_of page_size (run_push run e).size)) runs in
    if run_stays page_size (run_push run e) (key_size key) then [] else closes

-- the number of the next page after that
abbrev pub runs_next : ℕ → List ℕ → BranchElement → ℕ → List RunView → ℕ
runs_next page_size key e next [] = next
runs_next page_size key e next (run ∷ runs) =
    let closes =
    runs_next page_size key (record { key = run_key (run_push run e).elements; child = next })
    (next + (1 + overflow_of page_size (run_push run e).size)) runs in
    if run_stays page_size (run_push run e) (key_size key) then next else closes

-- A run of leaf items, and all that is open of a bucket.
pub record LeafRunView : Type 0 where
  pub elements : List LeafElement
  pub size : ℕ

abbrev pub no_leaves : LeafRunView
no_leaves = record { elements = []; size = 16 }

pub record BucketRunsView : Type 0 where
  pub leaves : LeafRunView
  pub uppers : List RunView
  pub limits : BucketLimits
  pub next : ℕ

-- only the first leaf of a bucket is under way
abbrev pub first_run : LeafRunView → BucketLimits → (next : ℕ) → BucketRunsView
first_run leaves limits next = record { leaves = leaves; uppers = []; limits = limits; next = next }

abbrev pub leaves_have_room : ℕ → LeafRunView → ℕ → Bool
leaves_have_room page_size run size = nat_lt (length run.elements) 1 || (nat_le (run.size + size) page_size && nat_lt (length run.elements) max_items)

abbrev pub leaf_key : List LeafElement → List ℕ
leaf_key [] = []
leaf_key (e ∷ elements) = e.key

abbrev pub leaf_page : ℕ → LeafRunView → ℕ → Placed
leaf_page page_size run next = record { number = next; view = leaf_page_view (overflow_of page_size run.size) run.elements }

-- room for an item of this key and size
abbrev pub runs_room : ℕ → BucketRunsView → List ℕ → ℕ → BucketRunsView
runs_room page_size runs key size =
    let closed : BranchElement = record { key = leaf_key runs.leaves.elements; child = runs.next } in
    let after = runs.next + (1 + overflow_of page_size runs.leaves.size) in
    let made : BucketRunsView = record {
      leaves = no_leaves;
      uppers = runs_climb page_size (bucket_limit runs.limits (length runs.uppers)) key closed after runs.uppers;
      limits = runs.limits;
      next = runs_next page_size key closed after runs.uppers;
    } in
    if leaves_have_room page_size runs.leaves size then runs else made

abbrev pub runs_room_put : ℕ → BucketRunsView → List ℕ → ℕ → List Placed
runs_room_put page_size runs key size =
    let closed : BranchElement = record { key = leaf_key runs.leaves.elements; child = runs.next } in
    let after = runs.next + (1 + overflow_of page_size runs.leaves.size) in
    let put = leaf_page page_size runs.leaves runs.next ∷ runs_put page_size key closed after runs.uppers in
    if leaves_have_room page_size runs.leaves size then [] else put

-- an item below which the pages up to `next` were written
abbrev pub runs_push : BucketRunsView → LeafElement → ℕ → ℕ → BucketRunsView
runs_push runs e size next = record {
  leaves = record { elements = runs.leaves.elements ++ e ∷ []; size = runs.leaves.size + size };
  uppers = runs.uppers;
  limits = runs.limits;
  next = next;
}

-- At the end each run closes in turn: the pages that this writes, and the number of the root page.
abbrev pub runs_close_put : ℕ → BranchElement → ℕ → List RunView → List Placed
runs_close_put page_size e next [] = []
runs_close_put page_size e next (run ∷ runs) = run_page page_size (run_push run e) next
    ∷ runs_close_put page_size (record { key = run_key (run_push run e).elements; child = next })
    (next + (1 + overflow_of page_size (run_push run e).size)) runs

abbrev pub runs_root : ℕ → BranchElement → ℕ → List RunView → ℕ
runs_root page_size e next [] = e.child
runs_root page_size e next (run ∷ runs) =
    runs_root page_size (record { key = run_key (run_push run e).elements; child = next }) (next + (1 + overflow_of page_size (run_push run e).size)) runs

abbrev pub runs_end_put : ℕ → BucketRunsView → List Placed
runs_end_put page_size runs = leaf_page page_size runs.leaves runs.next
    ∷ runs_close_put page_size (record { key = leaf_key runs.leaves.elements; child = runs.next })
    (runs.next + (1 + overflow_of page_size runs.leaves.size)) runs.uppers

abbrev pub runs_end : ℕ → BucketRunsView → ℕ
runs_end page_size runs =
    runs_root page_size (record { key = leaf_key runs.leaves.elements; child = runs.next })
    (runs.next + (1 + overflow_of page_size runs.leaves.size)) runs.uppers
