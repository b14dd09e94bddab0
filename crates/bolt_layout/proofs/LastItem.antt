-- The end of a cut: what one more item at the end of the row changes, and what joining the last run does.
use Rattle.std.proofs.Common.{◌≡◌, ◌⊎◌, ◌++◌, ◌≤◌, ℕ, suc, nat_lt, true, false, List, [], ◌∷◌, length, map, refl, sym, ap, inl, inr, arith}
use Rattle.bolt_layout.proofs.Words.{AllByRecursion, cut_from, cut_of, join_last, last_length, le-ltb, length_push, lt-ltb}

-- the runs with one more item in the last
abbrev pub push_last : {X : Type 0} → List (List X) → X → List (List X)
push_last [] x = (x ∷ []) ∷ []
push_last (run ∷ []) x = (run ++ x ∷ []) ∷ []
push_last (run ∷ next ∷ runs) x = run ∷ push_last (next ∷ runs) x

abbrev pub HasItem : {X : Type 0} → List X → Type 0
HasItem run = 1 ≤ length run

-- One more item joins the last run, or is a run of its own after one that has two.
abbrev pub IsPushed : {X : Type 0} → List (List X) → X → List (List X) → Type 0
IsPushed runs x more = (more ≡ push_last runs x) ⊎ ((more ≡ runs ++ (x ∷ []) ∷ []) × (2 ≤ last_length runs))

-- A row that has begun has a run.
pub some_runs : {X : Type 0} (page_size least : ℕ) (size : X → ℕ) (run items : List X) → 1 ≤ length (cut_from page_size least size run items)
some_runs page_size least size run [] = omega arith
some_runs page_size least size run (next ∷ items) = grind (arith, some_runs page_size least size (run ++ next ∷ []) items)

pub last_behind : {X : Type 0} (run : List X) (runs : List (List X)) → 1 ≤ length runs → last_length (run ∷ runs) ≡ last_length runs
last_behind run runs some = grind arith

pushed_from : {X : Type 0} (page_size : ℕ) (size : X → ℕ) (run items : List X) (x : X)
    → IsPushed (cut_from page_size 2 size run items) x (cut_from page_size 2 size run (items ++ x ∷ []))
pushed_from page_size size run [] x = grind arith
pushed_from page_size size run (next ∷ items) x =
    grind (arith, pushed_from page_size size (run ++ next ∷ []) items x, pushed_from page_size size (next ∷ []) items x)

pub cut_pushed : {X : Type 0} (page_size : ℕ) (size : X → ℕ) (items : List X) (x : X) → 1 ≤ length items
    → IsPushed (cut_of page_size 2 size items) x (cut_of page_size 2 size (items ++ x ∷ []))
cut_pushed page_size size items x some = grind (arith, pushed_from)

-- How many runs there are then, and how many items are in the last.
pub push_counts : {X : Type 0} (runs : List (List X)) (x : X) → 1 ≤ length runs
    → (length (push_last runs x) ≡ length runs) × (last_length (push_last runs x) ≡ suc (last_length runs))
push_counts (run ∷ next ∷ runs) x some = grind (arith, push_counts (next ∷ runs) x (omega arith))
push_counts runs x some = grind (arith, length_push)

pub last_append : {X : Type 0} (runs : List (List X)) (run : List X) → last_length (runs ++ run ∷ []) ≡ length run
last_append (first ∷ next ∷ runs) run = last_append (next ∷ runs) run
last_append runs run = grind arith

pub last_some : {X : Type 0} (runs : List (List X)) → AllByRecursion HasItem runs → 1 ≤ length runs → 1 ≤ last_length runs
last_some (run ∷ next ∷ runs) all some = last_some (next ∷ runs) all.1 (omega arith)
last_some runs all some = grind arith

-- Joining the last run leaves a cut as it is, if that run has two items or no run before it.
pub join_none : {X : Type 0} (runs : List (List X)) → (2 ≤ last_length runs) ⊎ (length runs ≤ 1) → join_last runs ≡ runs
join_none [] h = refl
join_none (run ∷ []) h = refl
join_none (run ∷ next ∷ []) (inl two) = let t : nat_lt (length next) 2 ≡ false = le-ltb (length next) 2 two in rw t refl
join_none (run ∷ next ∷ []) (inr one) = absurd (omega arith)
join_none {X = X} (run ∷ next ∷ more ∷ runs) (inl two) = ap (λ (rs : List (List X)). run ∷ rs) (join_none (next ∷ more ∷ runs) (inl two))
join_none (run ∷ next ∷ more ∷ runs) (inr one) = absurd (omega arith)

pub join_behind : {X : Type 0} (run : List X) (runs : List (List X)) → 2 ≤ length runs → join_last (run ∷ runs) ≡ run ∷ join_last runs
join_behind run runs two = grind arith

-- What is made of each run's front alone doesn't change when an item joins the last run,
abbrev pub IsOfFront : {X Y : Type 0} → (List X → Y) → Type 0
IsOfFront {X = X} top = (run more : List X) → HasItem run → top (run ++ more) ≡ top run

pub push_tops : {X Y : Type 0} (top : List X → Y) → IsOfFront top → (runs : List (List X)) (x : X) → AllByRecursion HasItem runs → 1 ≤ length runs
    → map top (push_last runs x) ≡ map top runs
push_tops top front [] x all some = absurd (omega arith)
push_tops {Y = Y} top front (run ∷ []) x all some = ap (λ (y : Y). y ∷ []) (front run (x ∷ []) all.0)
push_tops {Y = Y} top front (run ∷ next ∷ runs) x all some = ap (λ (ys : List Y). top run ∷ ys) (push_tops top front (next ∷ runs) x all.1 (omega arith))

-- and loses its last when the last run joins the one before.
pub join_tops : {X Y : Type 0} (top : List X → Y) → IsOfFront top → (runs : List (List X)) → AllByRecursion HasItem runs → last_length runs ≡ 1
    → 2 ≤ length runs
    → (y : Y) × (map top runs ≡ map top (join_last runs) ++ y ∷ [])
join_tops top front [] all one two = absurd (omega arith)
join_tops top front (run ∷ []) all one two = absurd (omega arith)
join_tops {Y = Y} top front (run ∷ next ∷ []) all one two =
    let t : nat_lt (length next) 2 ≡ true = lt-ltb (length next) 2 (omega arith) in
    (top next, rw t (ap (λ (y : Y). y ∷ top next ∷ []) (sym (front run next all.0))))
join_tops top front (run ∷ next ∷ more ∷ runs) all one two = grind (arith, join_tops top front (next ∷ more ∷ runs) all.1 one (omega arith))
