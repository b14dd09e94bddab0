-- The open runs that the code keeps of a bucket are those that the pass has open.
use Rattle.std.proofs.Common.{◌≡◌, ◌∙◌, ℕ, ◌+◌, Option, List, [], ◌∷◌, ◌++◌, length, refl, ap, arith, suc}
use Rattle.std.proofs.lemmas.List.Sums.{sum_by_push}
use Rattle.std.specs.List.{AllByRecursion}
use Rattle.bolt_lemmas.proofs.Exports.{all_append}
use Rattle.bolt_format.specs.Elements.{BranchElement, LeafElement}
use Rattle.bolt_layout.specs.{Laid.Laid, Laid.elements_of, Laid.first_key, Laid.numbers_of, Levels.branch_page_view, Levels.overflow_of}
use Rattle.bolt_layout.specs.{Levels.page_over, Levels.leaf_page_view}
use Rattle.bolt_bulk.specs.Private.{AreOpenRuns, AreUppers, bucket_end_next, bucket_limit, BucketRunsView, climb, climb_puts, close, close_puts}
use Rattle.bolt_bulk.specs.Private.{element_up, end_of, end_puts, IsKeyed, IsKeyedItem, IsUpper, kept_upper, key_size, Known, leaf_closed, leaf_page}
use Rattle.bolt_bulk.specs.Private.{making_room, no_leaves, nothing_open, numbers_in, Open, own_page, pushed_on, pushing, put_in, room_puts, run_kept}
use Rattle.bolt_bulk.specs.Private.{run_key, run_page, run_push, run_stays, runs_climb, runs_close_put, runs_end, runs_end_next, runs_end_put}
use Rattle.bolt_bulk.specs.Private.{runs_next, runs_push, runs_put, runs_room, runs_room_put, runs_root, RunView, stays_open, Upper}
use Rattle.bolt_bulk.specs.declared.limits.BucketLimits.{BucketLimits}
use Rattle.bolt_layout.proofs.Exports.{numbers-append, length-elements, same_branch}

pub elements-append : {E : Type 0} (xs ys : List (Laid E)) (n : ℕ) → elements_of (xs ++ ys) n ≡ elements_of xs n ++ elements_of ys (n + numbers_of xs)
elements-append [] ys n = ap (λ (m : ℕ). elements_of ys m) (let e : n ≡ n + 0 = omega arith in e)
elements-append (x ∷ xs) ys n = grind (arith, elements-append xs ys (n + x.numbers))

pub run_grown : (kept_run : RunView) (upper : Upper) (n : ℕ) (q : Laid BranchElement) (e : BranchElement) → IsUpper kept_run upper n → IsKeyed q
    → e ≡ q.element (n + numbers_of upper.run)
    → IsUpper (run_push kept_run e) (pushed_on upper q) n
run_grown kept_run upper n q e is keyed same = grind (arith, sum_by_push, elements-append, all_append)

pub stays_same : (page_size : ℕ) (kept_run : RunView) (upper : Upper) (n size : ℕ) → IsUpper kept_run upper n
    → run_stays page_size kept_run size ≡ stays_open page_size upper size
stays_same page_size kept_run upper n size is = grind (arith, length-elements)

pub kept_same : (page_size : ℕ) (kept_run : RunView) (upper : Upper) (n size : ℕ) → IsUpper kept_run upper n
    → IsUpper (run_kept page_size kept_run size) (kept_upper page_size upper size) n
kept_same page_size kept_run upper n size is = grind (arith, length-elements)

pub key_same : (run : List (Laid BranchElement)) (n : ℕ) → AllByRecursion IsKeyed run → run_key (elements_of run n) ≡ first_key run
key_same run n keyed = grind arith

pub placed_same : (page_size : ℕ) (kept_run : RunView) (upper : Upper) (n next : ℕ) → IsUpper kept_run upper n → next ≡ n + numbers_of upper.run
    → run_page page_size kept_run next ≡ own_page branch_page_view page_size upper.run n
placed_same page_size kept_run upper n next is number = grind arith

-- the page over a run that takes one more page
record Over (page_size : ℕ) (kept_run : RunView) (upper : Upper) (m next : ℕ) (e : BranchElement) (q : Laid BranchElement) : Type 0 where
  pub pushed : IsUpper (run_push kept_run e) (pushed_on upper q) m
  pub next_is : next ≡ m + numbers_of (upper.run ++ q ∷ [])
  pub named : element_up e next kept_run ≡ (page_over branch_page_view page_size (upper.run ++ q ∷ [])).element m
  pub own : run_page page_size (run_push kept_run e) next ≡ own_page branch_page_view page_size (upper.run ++ q ∷ []) m
  pub after : next + (1 + overflow_of page_size (run_push kept_run e).size) ≡ m + (page_over branch_page_view page_size (upper.run ++ q ∷ [])).numbers

over_run : (page_size next b : ℕ) (e : BranchElement) (q : Laid BranchElement) (kept_run : RunView) (upper : Upper) (uppers : List Upper)
    → IsUpper kept_run upper (b + numbers_in uppers) → IsKeyed q
    → e ≡ q.element (b + numbers_in (upper ∷ uppers)) → next ≡ b + numbers_in (upper ∷ uppers) + q.numbers
    → Over page_size kept_run upper (b + numbers_in uppers) next e q
over_run page_size next b e q kept_run upper uppers is keyed same number =
    let run : List (Laid BranchElement) = upper.run in
    let m : ℕ = b + numbers_in uppers in
    let count = numbers-append (put_in uppers) run in
    let place : b + numbers_in (upper ∷ uppers) ≡ m + numbers_of run = omega arith in
    let pushed = run_grown kept_run upper m q e is keyed (same ∙ ap q.element place) in
    grind (arith, numbers-append, same_branch, key_same, placed_same)

-- the climb of the kept upper runs is that of the open ones
runs_climbed : (page_size : ℕ) (new : Option ℕ) (key : List ℕ) (e : BranchElement) (next b : ℕ) (q : Laid BranchElement) (kept_runs : List RunView)
    (uppers : List Upper)
    → AreUppers kept_runs uppers b → IsKeyed q
    → e ≡ q.element (b + numbers_in uppers) → next ≡ b + numbers_in uppers + q.numbers
    → AreUppers (runs_climb page_size new key e next kept_runs) (climb page_size new key q uppers) b
    × (runs_put page_size key e next kept_runs ≡ climb_puts page_size key q uppers b)
    × (runs_next page_size key e next kept_runs ≡ b + numbers_in (climb page_size new key q uppers))
runs_climbed page_size new key e next b q (kept_run ∷ kept_runs) (upper ∷ uppers) are keyed same number =
    let m : ℕ = b + numbers_in uppers in
    let over = over_run page_size next b e q kept_run upper uppers are.0 keyed same number in
    let test = stays_same page_size (run_push kept_run e) (pushed_on upper q) m (key_size key) over.pushed in
    let q2 : Laid BranchElement = page_over branch_page_view page_size (upper.run ++ q ∷ []) in
    let after : ℕ = next + (1 + overflow_of page_size (run_push kept_run e).size) in
    let ih = runs_climbed page_size new key (element_up e next kept_run) after b q2 kept_runs uppers are.1 (refl, λ n. refl) over.named over.after in
    let more = numbers-append (put_in uppers) (upper.run ++ q ∷ []) in
    let none = numbers-append (put_in (climb page_size new key q2 uppers)) [] in
    let stays = kept_same page_size (run_push kept_run e) (pushed_on upper q) m (key_size key) over.pushed in
    grind arith
runs_climbed page_size new key e next b q kept_runs uppers are keyed same number = grind (arith, run_grown)

pub nothing_runs : (known : Known) (b : ℕ)
    → AreOpenRuns (record { leaves = no_leaves; uppers = []; limits = known.limits; next = b }) (nothing_open known) b
nothing_runs known b = record { same = refl; size_is = refl; keyed = tt; above = tt; next_is = omega arith; limits_are = refl }

as_many : (kept_runs : List RunView) (uppers : List Upper) (b : ℕ) → AreUppers kept_runs uppers b → length kept_runs ≡ length uppers
as_many (kept_run ∷ kept_runs) (upper ∷ uppers) b are = ap suc (as_many kept_runs uppers b are.1)
as_many kept_runs uppers b are = grind arith

-- the page over the leaf under way
record OverLeaf (page_size : ℕ) (kept_runs : BucketRunsView) (run : List (Laid LeafElement)) (m : ℕ) : Type 0 where
  pub named : leaf_closed kept_runs.leaves kept_runs.next ≡ (page_over leaf_page_view page_size run).element m
  pub own : leaf_page page_size kept_runs.leaves kept_runs.next ≡ own_page leaf_page_view page_size run m
  pub after : kept_runs.next + (1 + overflow_of page_size kept_runs.leaves.size) ≡ m + (page_over leaf_page_view page_size run).numbers

over_leaf : (page_size : ℕ) (kept_runs : BucketRunsView) (state : Open) (b : ℕ) → AreOpenRuns kept_runs state b
    → OverLeaf page_size kept_runs state.run (b + numbers_in state.uppers)
over_leaf page_size kept_runs state b is = grind (arith, same_branch)

-- making room
pub runs_have_room : (page_size : ℕ) (kept_runs : BucketRunsView) (state : Open) (b : ℕ) (key : List ℕ) (size : ℕ) → AreOpenRuns kept_runs state b
    → AreOpenRuns (runs_room page_size kept_runs key size) (making_room page_size state key size) b
    × (runs_room_put page_size kept_runs key size ≡ room_puts page_size state key size b)
runs_have_room page_size kept_runs state b key size is =
    let m : ℕ = b + numbers_in state.uppers in
    let l : length kept_runs.leaves.elements ≡ length state.run = ap (λ (es : List LeafElement). length es) is.same ∙ length-elements state.run m in
    let q : Laid BranchElement = page_over leaf_page_view page_size state.run in
    let closed : BranchElement = leaf_closed kept_runs.leaves kept_runs.next in
    let after : ℕ = kept_runs.next + (1 + overflow_of page_size kept_runs.leaves.size) in
    let over = over_leaf page_size kept_runs state b is in
    let new : Option ℕ = bucket_limit state.known.limits (length state.uppers) in
    let level : bucket_limit kept_runs.limits (length kept_runs.uppers) ≡ new =
    ap (λ (limits : BucketLimits). bucket_limit limits (length kept_runs.uppers)) is.limits_are
    ∙ ap (λ (k : ℕ). bucket_limit state.known.limits k) (as_many kept_runs.uppers state.uppers b is.above) in
    let climbed = runs_climbed page_size new key closed after b q kept_runs.uppers state.uppers is.above (refl, λ k. refl) over.named over.after in
    grind arith

-- an item, once the pages below it were written
pub runs_pushed : (kept_runs : BucketRunsView) (state : Open) (b : ℕ) (item : Laid LeafElement) (e : LeafElement) (size next : ℕ)
    → AreOpenRuns kept_runs state b → IsKeyedItem item → e ≡ item.element kept_runs.next
    → size ≡ item.size → next ≡ kept_runs.next + item.numbers → AreOpenRuns (runs_push kept_runs e size next) (pushing state item) b
runs_pushed kept_runs state b item e size next is keyed element sized after = grind (arith, sum_by_push, numbers-append, elements-append, all_append)

-- the end
runs_closed : (page_size : ℕ) (e : BranchElement) (next b : ℕ) (q : Laid BranchElement) (kept_runs : List RunView) (uppers : List Upper)
    → AreUppers kept_runs uppers b → IsKeyed q
    → e ≡ q.element (b + numbers_in uppers) → next ≡ b + numbers_in uppers + q.numbers
    → (runs_close_put page_size e next kept_runs ≡ close_puts page_size q uppers b)
    × (runs_root page_size e next kept_runs ≡ ((close page_size q uppers).element b).child)
    × (runs_end_next page_size e next kept_runs ≡ b + (close page_size q uppers).numbers)
runs_closed page_size e next b q (kept_run ∷ kept_runs) (upper ∷ uppers) are keyed same number =
    let over = over_run page_size next b e q kept_run upper uppers are.0 keyed same number in
    let after : ℕ = next + (1 + overflow_of page_size (run_push kept_run e).size) in
    let ih =
    runs_closed page_size (element_up e next kept_run) after b (page_over branch_page_view page_size (upper.run ++ q ∷ [])) kept_runs uppers are.1
    (refl, λ n. refl) over.named over.after in
    grind arith
runs_closed page_size e next b q kept_runs uppers are keyed same number = grind arith

pub runs_ended : (page_size : ℕ) (kept_runs : BucketRunsView) (state : Open) (b : ℕ) → AreOpenRuns kept_runs state b
    → (runs_end_put page_size kept_runs ≡ end_puts page_size state b) × (runs_end page_size kept_runs ≡ ((end_of page_size state).element b).child)
    × (bucket_end_next page_size kept_runs ≡ b + (end_of page_size state).numbers)
runs_ended page_size kept_runs state b is = let over = over_leaf page_size kept_runs state b is in
    let ends =
    runs_closed page_size (leaf_closed kept_runs.leaves kept_runs.next) _ b (page_over leaf_page_view page_size state.run) kept_runs.uppers state.uppers
    is.above (refl, λ k. refl) over.named over.after in
    grind arith
