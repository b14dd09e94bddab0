-- The cut of a row of items into the runs that share a page: docs/LAYOUT.md, "The cut".
-- Over items of any kind, by their sizes.
use Rattle.std.specs.Prelude.{suc, ◌≡◌, ◌≢◌, ◌≤◌, ◌<◌, ◌⊎◌, ◌↔◌, ℕ, ◌+◌, Bool, ◌||◌, ◌&&◌, nat_lt, nat_le, List, [], ◌∷◌, ◌++◌, length, sum_by}
use Rattle.std.specs.Prelude.{flat_map, Some, slice_get, if◌then◌else◌}
use Rattle.bolt_layout.specs.{declared.Layout.Layout, declared.Layout.TheVariants.Plain, declared.Layout.TheVariants.Balanced}

-- the most items that a page may have
abbrev pub max_items : ℕ
max_items = 65534

-- a page has 16 bytes and the sizes of its items
abbrev pub run_size : {X : Type 0} → (X → ℕ) → List X → ℕ
run_size size run = 16 + sum_by size run

-- The runs of a row: they are the row, in order, and none is empty. A run of more than `least` items has a page within the page size, and
-- none has more than 65,534 items. Each run but the last has at least `least` items, and with the next item its page would be larger than
-- the page size, or it has 65,534.
pub record IsCut {X : Type 0} (page_size least : ℕ) (size : X → ℕ) (items : List X) (runs : List (List X)) : Type 0 where
  pub whole : flat_map (λ run. run) runs ≡ items
  pub filled : (i : ℕ) (run : List X) → slice_get runs i ≡ Some run → run ≢ []
  pub fits : (i : ℕ) (run : List X) → slice_get runs i ≡ Some run → least < length run → run_size size run ≤ page_size
  pub capped : (i : ℕ) (run : List X) → slice_get runs i ≡ Some run → length run ≤ max_items
  pub long : (i : ℕ) (run next : List X) → slice_get runs i ≡ Some run → slice_get runs (suc i) ≡ Some next → least ≤ length run
  pub full : (i : ℕ) (run more : List X) (next : X) → slice_get runs i ≡ Some run → slice_get runs (suc i) ≡ Some (next ∷ more)
      → (page_size < run_size size (run ++ next ∷ [])) ⊎ (length run ≡ max_items)

-- From the left: the next item joins the run if the run has fewer than `least` items, or if its page with the item is within the page size
-- and it has fewer than 65,534 items.
abbrev pub joins : {X : Type 0} → (page_size least : ℕ) → (X → ℕ) → List X → X → Bool
joins page_size least size run next =
    nat_lt (length run) least || (nat_le (run_size size (run ++ next ∷ [])) page_size && nat_lt (length run) max_items)

-- otherwise it begins the next run
abbrev pub cut_from : {X : Type 0} → (page_size least : ℕ) → (X → ℕ) → List X → List X → List (List X)
cut_from page_size least size run [] = run ∷ []
cut_from page_size least size run (next ∷ items) =
    let joined = cut_from page_size least size (run ++ next ∷ []) items in
    let begun = run ∷ cut_from page_size least size (next ∷ []) items in
    if joins page_size least size run next then joined else begun

abbrev pub cut_of : {X : Type 0} → (page_size least : ℕ) → (X → ℕ) → List X → List (List X)
cut_of page_size least size [] = []
cut_of page_size least size (first ∷ items) = cut_from page_size least size (first ∷ []) items

-- A run of one item at the end of a row joins the run before it.
abbrev pub join_last : {X : Type 0} → List (List X) → List (List X)
join_last [] = []
join_last (run ∷ []) = run ∷ []
join_last (run ∷ next ∷ []) = if nat_lt (length next) 2 then (run ++ next) ∷ [] else run ∷ next ∷ []
join_last (run ∷ next ∷ more ∷ runs) = run ∷ join_last (next ∷ more ∷ runs)

-- how a row of a bucket's pages is divided into branches: no branch of the balanced layout has a single item, if its row has two
abbrev pub branch_cut : {X : Type 0} → Layout → (page_size : ℕ) → (X → ℕ) → List X → List (List X)
branch_cut Plain page_size size items = cut_of page_size 2 size items
branch_cut Balanced page_size size items = join_last (cut_of page_size 2 size items)

-- each row has exactly one cut, that of `cut_of`
abbrev pub CutIsOne : Type 0 → Type 0
CutIsOne X = (page_size least : ℕ) (size : X → ℕ) (items : List X) (runs : List (List X)) → 1 ≤ least → least ≤ max_items
    → IsCut page_size least size items runs ↔ (runs ≡ cut_of page_size least size items)
