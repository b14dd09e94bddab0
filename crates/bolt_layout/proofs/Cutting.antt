-- The cuts of both layouts divide a row as the soundness of a layout asks.
use Rattle.std.proofs.lemmas.Grind.{common_steps}
use Rattle.std.proofs.Common.{◌≡◌, ℕ, suc, ◌*◌, ◌≤◌, List, [], ◌∷◌, ◌++◌, length, flat_map, refl, ap, arith, append_assoc}
use Rattle.bolt_layout.proofs.Words.{AllByRecursion, append-nil, Balanced, branch_cut, cut_of, IsDivided, IsPageRun, join_last, Layout, length-append}
use Rattle.bolt_layout.proofs.Words.{max_items, Plain}
use Rattle.bolt_layout.proofs.OneCut.{AreRuns, cut_runs, cut_whole}
use Rattle.bolt_layout.specs.Divisions.{IsHalved}

divided_each : {X : Type 0} (page_size least wide extra : ℕ) (size : X → ℕ) (runs : List (List X)) → least ≤ wide → AreRuns page_size least size runs
    → AllByRecursion (IsPageRun page_size wide extra size) runs
divided_each page_size least wide extra size [] h are = tt
divided_each page_size least wide extra size (run ∷ runs) h are = grind (arith, append-nil, divided_each page_size least wide extra size runs h are.2)

pub cut_divides : {X : Type 0} (page_size least wide extra : ℕ) (size : X → ℕ) (items : List X) → 1 ≤ least → least ≤ max_items → least ≤ wide
    → IsDivided page_size wide extra size items (cut_of page_size least size items)
cut_divides page_size least wide extra size items some cap h = grind (arith, cut_whole, divided_each, cut_runs)

-- Each run but the last has two items at least.
halved : {X : Type 0} (page_size : ℕ) (size : X → ℕ) (runs : List (List X)) → AreRuns page_size 2 size runs
    → 2 * length runs ≤ suc (length (flat_map (λ run. run) runs))
halved page_size size (run ∷ next ∷ runs) are = grind (arith, length-append, halved page_size size (next ∷ runs) are.2)
halved page_size size runs are = grind (arith, length-append)

-- Joining the last run keeps the row,
joined_whole : {X : Type 0} (runs : List (List X)) → flat_map (λ run. run) (join_last runs) ≡ flat_map (λ run. run) runs
joined_whole [] = refl
joined_whole (run ∷ []) = refl
joined_whole (run ∷ next ∷ []) = grind (arith, append_assoc)
joined_whole {X = X} (run ∷ next ∷ more ∷ runs) = ap (λ (xs : List X). run ++ xs) (joined_whole (next ∷ more ∷ runs))

-- leaves no more runs,
joined_fewer : {X : Type 0} (runs : List (List X)) → length (join_last runs) ≤ length runs
joined_fewer (run ∷ next ∷ more ∷ runs) = let ih = joined_fewer (next ∷ more ∷ runs) in omega arith
joined_fewer runs = grind arith

-- and a page can hold the run that the last one joins.
looser : {X : Type 0} (page_size : ℕ) (size : X → ℕ) (run : List X) → IsPageRun page_size 2 0 size run → IsPageRun page_size 3 1 size run
looser page_size size run is = grind arith

no_last : {X : Type 0} (last : List X) → length last ≤ 0 → last ≡ []
no_last last few = grind (arith, common_steps)

joined_each : {X : Type 0} (page_size : ℕ) (size : X → ℕ) (runs : List (List X)) → AllByRecursion (IsPageRun page_size 2 0 size) runs
    → AllByRecursion (IsPageRun page_size 3 1 size) (join_last runs)
joined_each page_size size (run ∷ next ∷ more ∷ runs) each = (looser page_size size run each.0, joined_each page_size size (next ∷ more ∷ runs) each.1)
joined_each page_size size runs each = grind (arith, common_steps, looser, length-append, no_last, append-nil)

-- So it is of both layouts.
pub branches_divide : {X : Type 0} (which : Layout) (page_size : ℕ) (size : X → ℕ) (items : List X)
    → IsDivided page_size 3 1 size items (branch_cut which page_size size items)
branches_divide Plain page_size size items = cut_divides page_size 2 3 1 size items (omega arith) (omega arith) (omega arith)
branches_divide Balanced page_size size items =
    let plain = cut_divides page_size 2 2 0 size items (omega arith) (omega arith) (omega arith) in
    grind (arith, joined_whole, joined_each)

pub branches_halve : {X : Type 0} (which : Layout) (page_size : ℕ) (size : X → ℕ) (items : List X)
    → IsHalved items (branch_cut which page_size size items)
branches_halve which page_size size items = grind (arith, joined_fewer, halved, cut_runs, cut_whole)
