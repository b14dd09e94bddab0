-- A bucket's open runs, one after another: the climb over them, and the end of the bucket, at which each closes.
use Rattle.std.proofs.lemmas.Grind.{common_steps}
use Rattle.std.proofs.lemmas.List.{length-map, drop_more, drop-set-lt, set_split, take_more_set}
use Rattle.std.proofs.{Math.ListN.get_or-map, lemmas.Option.none-some, lemmas.Option.same_Some}
use Rattle.std.proofs.Common.{◌≡◌, ◌∙◌, ℕ, suc, ◌+◌, ◌<◌, ◌≤◌, true, false, List, [], ◌∷◌, ◌++◌, length, map, take, drop, get_or, set, if◌then◌else◌}
use Rattle.std.proofs.Common.{add-one, Option, Some, None, Err, option_map, refl, sym, ap, arith, append_assoc}
use Rattle.std.specs.{List.AllByRecursion}
use Rattle.bolt_format.specs.{ElementPlaces.branch_view, Elements.BranchElement, declared.element.Branch.Branch, Wrote.Wrote, Endings.whole}
use Rattle.bolt_format.specs.{declared.sink.Sink.Ghosts}
use Rattle.bolt_bulk.specs.Private.{element_up, IsStanding, key_size, no_run, one_closed, run_kept, run_page, run_push, run_stays, run_view}
use Rattle.bolt_bulk.specs.Private.{runs_above, runs_climb, runs_close_put, runs_end_next, runs_next, runs_put, runs_root, RunView, taking_next}
use Rattle.bolt_bulk.specs.Private.{taking_puts, taking_up, Closes, Writes}
use Rattle.bolt_bulk.specs.{declared.branch_run.BranchRun.BranchRun, declared.bulk_fault.BulkFault.BulkFault, declared.page_setup.PageSetup.PageSetup}
use Rattle.bolt_layout.specs.{Laid.Placed, Levels.overflow_of, Limits.one_less, Layout.placed_bytes}
use Rattle.bolt_bulk.proofs.PutsLemmas.{bytes-append, short_stop, Wrote-stops}
use Rattle.bolt_format.proofs.Exports.{WroteFront, front_more, front_stop, front_whole}

-- The whole climb, from an element, a number and runs; and the climb that is left, from the runs from number i on.
pub record Climbing {S : Type 0} (setup : PageSetup) (new : Option ℕ) (key : List ℕ) (e0 : BranchElement) (n0 : ℕ) (runs0 : List RunView) (sink : Ghosts S)
    (old later : S)
    (runs : List RunView) (i : ℕ) (e : BranchElement) (next : ℕ) : Type 0 where
  pub climbs : runs_climb setup.page_size new key e0 n0 runs0 ≡ take i runs ++ runs_climb setup.page_size new key e next (drop i runs)
  pub nexts : runs_next setup.page_size key e0 n0 runs0 ≡ runs_next setup.page_size key e next (drop i runs)
  pub front : WroteFront sink old later (placed_bytes setup.page_size (runs_put setup.page_size key e0 n0 runs0))
      (placed_bytes setup.page_size (runs_put setup.page_size key e next (drop i runs)))

-- what the next run writes, and what is written after it
abbrev after_put : ℕ → List ℕ → BranchElement → ℕ → RunView → List RunView → List Placed
after_put page_size key e next run runs =
    if run_stays page_size (run_push run e) (key_size key) then []
    else runs_put page_size key (element_up e next run) (next + (1 + overflow_of page_size (run_push run e).size)) runs

put_split : (page_size : ℕ) (key : List ℕ) (e : BranchElement) (next : ℕ) (run : RunView) (runs : List RunView)
    → runs_put page_size key e next (run ∷ runs) ≡ taking_puts page_size key e next run ++ after_put page_size key e next run runs
put_split page_size key e next run runs = grind arith

left_split : (page_size : ℕ) (key : List ℕ) (e : BranchElement) (next : ℕ) (run : RunView) (runs left : List RunView) → left ≡ run ∷ runs
    → placed_bytes page_size (runs_put page_size key e next left)
    ≡ placed_bytes page_size (taking_puts page_size key e next run) ++ placed_bytes page_size (after_put page_size key e next run runs)
left_split page_size key e next run runs left at = grind (arith, put_split, bytes-append)

set_at : {X : Type 0} (xs : List X) (i : ℕ) (x : X) → i < length xs → set xs i x ≡ take i xs ++ x ∷ drop (i + 1) xs
set_at xs i x h = set_split xs i x h ∙ ap (λ (n : ℕ). take i xs ++ x ∷ drop n xs) (sym (add-one i))

-- the numbers only grow
pub next_grows : (page_size : ℕ) (key : List ℕ) (e : BranchElement) (next : ℕ) (runs : List RunView) → next ≤ runs_next page_size key e next runs
next_grows page_size key e next [] = omega arith
next_grows page_size key e next (run ∷ runs) =
    grind (arith, next_grows page_size key (element_up e next run) (next + (1 + overflow_of page_size (run_push run e).size)) runs)

module _ {S : Type 0} {sink : Ghosts S} {setup : PageSetup} {new : Option ℕ} {key : List ℕ} {e0 : BranchElement} {n0 : ℕ} {runs0 : List RunView}
    {old mid : S} {runs : List RunView} {i : ℕ} {e : BranchElement} {next : ℕ} {run : RunView}
    (at : drop i runs ≡ run ∷ drop (i + 1) runs) (c : Climbing setup new key e0 n0 runs0 sink old mid runs i e next) where
  -- the run takes the element and stays: the climb is over
  pub climb_stays : {later : S} → i < length runs → run_stays setup.page_size (run_push run e) (key_size key) ≡ true
      → Wrote sink mid later (placed_bytes setup.page_size (taking_puts setup.page_size key e next run)) whole
      → (runs_climb setup.page_size new key e0 n0 runs0 ≡ set runs i (run_kept setup.page_size (run_push run e) (key_size key)))
      × (runs_next setup.page_size key e0 n0 runs0 ≡ next)
      × Wrote sink old later (placed_bytes setup.page_size (runs_put setup.page_size key e0 n0 runs0)) whole
  climb_stays h room one =
      let nexted : runs_next setup.page_size key e next (run ∷ drop (i + 1) runs) ≡ next = rw room refl in
      grind (arith, common_steps, front_more, left_split, set_at, front_whole)

  -- it closes: its element climbs on
  pub climb_closes : {later : S} → i < length runs → run_stays setup.page_size (run_push run e) (key_size key) ≡ false
      → Wrote sink mid later (placed_bytes setup.page_size (taking_puts setup.page_size key e next run)) whole
      → Climbing setup new key e0 n0 runs0 sink old later (set runs i (no_run (one_less run.allowed) (one_closed run.closed))) (i + 1)
      (element_up e next run) (next + (1 + overflow_of setup.page_size (run_push run e).size))
  climb_closes h room one = grind (arith, drop-set-lt, take_more_set, front_more, left_split, append_assoc)

  -- a fault
  pub climb_stops : {A B : Type 0} {later : S} (fault : BulkFault)
      → Writes {A = A} sink mid later setup (taking_puts setup.page_size key e next run) (taking_next setup.page_size key e next run) (Err fault)
      → Writes {A = B} sink old later setup (runs_put setup.page_size key e0 n0 runs0) (runs_next setup.page_size key e0 n0 runs0) (Err fault)
  climb_stops fault one = record {
    pages = front_stop c.front (Wrote-stops _ fault one.pages) (left_split setup.page_size key e next run (drop (i + 1) runs) (drop i runs) at);
    large = λ is. let large = one.large is in grind (arith, next_grows);
  }

-- the same of the runs that the code keeps
standing_at : (runs : List BranchRun) (i : ℕ) (run : BranchRun) → i < length runs → run ≡ get_or runs i run
    → AllByRecursion IsStanding (map run_view runs) → IsStanding (run_view run)
standing_at (x ∷ runs) (suc i) run h same all = standing_at runs i run (omega arith) same all.1
standing_at runs i run h same all = grind arith

pub record IsRunAt (runs : List BranchRun) (i : ℕ) (run : BranchRun) : Type 0 where
  pub within : i < length (runs_above runs)
  pub at : drop i (runs_above runs) ≡ run_view run ∷ drop (i + 1) (runs_above runs)
  pub standing : IsStanding (run_view run)

pub run_at : (count : ℕ) (runs : List BranchRun) (i : ℕ) (run : BranchRun) → i < count → length runs ≡ count → run ≡ get_or runs i run
    → AllByRecursion IsStanding (runs_above runs) → IsRunAt runs i run
run_at count runs i run h same value all =
    let l = length-map runs run_view in
    record {
      within = omega arith;
      at =
          drop_more (runs_above runs) i (run_view run) (omega arith)
          ∙ ap (λ (r : RunView). r ∷ drop (i + 1) (runs_above runs)) (get_or-map run_view runs i run ∙ ap run_view (sym value));
      standing = standing_at runs i run (omega arith) value all;
    }

pub standing_set : (runs : List RunView) (i : ℕ) (run : RunView) → AllByRecursion IsStanding runs → IsStanding run
    → AllByRecursion IsStanding (set runs i run)
standing_set (x ∷ runs) (suc i) run all is = (all.0, standing_set runs i run all.1 is)
standing_set runs i run all is = grind arith

pub room_by : (page_size : ℕ) (key : List ℕ) (e : BranchElement) (next : ℕ) (run : RunView) (up : Option Branch) → up ≡ None
    → option_map branch_view up ≡ taking_up page_size key e next run
    → run_stays page_size (run_push run e) (key_size key) ≡ true
room_by page_size key e next run up is same = grind (arith, none-some)

pub no_room_by : (page_size : ℕ) (key : List ℕ) (e : BranchElement) (next : ℕ) (run : RunView) (up : Option Branch) (x : Branch) → up ≡ Some x
    → option_map branch_view up ≡ taking_up page_size key e next run
    → (run_stays page_size (run_push run e) (key_size key) ≡ false) × (branch_view x ≡ element_up e next run)
no_room_by page_size key e next run up x is same = grind (arith, none-some, same_Some)

-- the key of a run's own element is one of its elements' keys
pub up_key : (e : BranchElement) (next : ℕ) (run : RunView) → IsStanding run → length e.key ≤ 1073741824
    → length (element_up e next run).key ≤ 1073741824
up_key e next run is key = grind arith

-- The whole end, from an element, a number and runs; and the end that is left, from the runs from number i on.
pub record Closing {S : Type 0} (setup : PageSetup) (e0 : BranchElement) (n0 : ℕ) (runs0 : List RunView) (sink : Ghosts S) (old new : S)
    (runs : List RunView) (i : ℕ) (e : BranchElement) (next : ℕ) : Type 0 where
  pub roots : runs_root setup.page_size e0 n0 runs0 ≡ runs_root setup.page_size e next (drop i runs)
  pub nexts : runs_end_next setup.page_size e0 n0 runs0 ≡ runs_end_next setup.page_size e next (drop i runs)
  pub front : WroteFront sink old new (placed_bytes setup.page_size (runs_close_put setup.page_size e0 n0 runs0))
      (placed_bytes setup.page_size (runs_close_put setup.page_size e next (drop i runs)))

-- what the next run writes, and what is written after it
close_left : (page_size : ℕ) (e : BranchElement) (next : ℕ) (run : RunView) (runs left : List RunView) → left ≡ run ∷ runs
    → placed_bytes page_size (runs_close_put page_size e next left)
    ≡ placed_bytes page_size (run_page page_size (run_push run e) next ∷ [])
    ++ placed_bytes page_size (runs_close_put page_size (element_up e next run) (next + (1 + overflow_of page_size (run_push run e).size)) runs)
close_left page_size e next run runs left at = rw at (bytes-append page_size (run_page page_size (run_push run e) next ∷ []) _)

-- the numbers only grow
pub end_grows : (page_size : ℕ) (e : BranchElement) (next : ℕ) (runs : List RunView) → next ≤ runs_end_next page_size e next runs
end_grows page_size e next [] = omega arith
end_grows page_size e next (run ∷ runs) =
    let ih = end_grows page_size (element_up e next run) (next + (1 + overflow_of page_size (run_push run e).size)) runs in omega arith

module _ {S : Type 0} {sink : Ghosts S} {setup : PageSetup} {e0 : BranchElement} {n0 : ℕ} {runs0 : List RunView} {old mid : S} {runs : List RunView} {i : ℕ}
    {e : BranchElement} {next : ℕ} {run : RunView}
    (at : drop i runs ≡ run ∷ drop (i + 1) runs) (c : Closing setup e0 n0 runs0 sink old mid runs i e next) where
  -- a run closes, and its element goes on
  pub close_more : {later : S} (left : RunView) (up : BranchElement) (after : ℕ) → up ≡ element_up e next run
      → after ≡ next + (1 + overflow_of setup.page_size (run_push run e).size)
      → Wrote sink mid later (placed_bytes setup.page_size (run_page setup.page_size (run_push run e) next ∷ [])) whole
      → Closing setup e0 n0 runs0 sink old later (set runs i left) (i + 1) up after
  close_more left up after up_is after_is one = grind (arith, drop-set-lt, front_more, close_left)

  -- a fault
  pub close_stops : {A B : Type 0} {later : S} {after last : ℕ} (fault : BulkFault)
      → Closes {A = A} sink mid later setup (run_page setup.page_size (run_push run e) next ∷ [])
      (next + (1 + overflow_of setup.page_size (run_push run e).size)) after (Err fault)
      → Closes {A = B} sink old later setup (runs_close_put setup.page_size e0 n0 runs0) (runs_end_next setup.page_size e0 n0 runs0) last (Err fault)
  close_stops fault one =
      let left = close_left setup.page_size e next run (drop (i + 1) runs) (drop i runs) at in
      record {
        writes = record {
          pages = front_stop c.front (Wrote-stops _ fault one.writes.pages) left;
          large = λ is. let large = one.writes.large is in grind (arith, end_grows);
        };
        short = short_stop _ left c.front one.short;
        marked = tt;
      }
