-- What the soundness of a layout needs of the way in which a row is divided: docs/LAYOUT.md, "What holds of both layouts". The cuts of both
-- layouts have it.
use Rattle.std.specs.Prelude.{suc, ◌≡◌, ◌≤◌, ◌<◌, ◌+◌, ◌*◌, ℕ, List, ◌++◌, length, flat_map}
use Rattle.std.specs.List.{AllByRecursion}
use Rattle.bolt_layout.specs.Cut.{max_items, run_size}

-- the page over a run is within the page size but for its last `extra` items
pub record FitsBut {X : Type 0} (page_size extra : ℕ) (size : X → ℕ) (run : List X) : Type 0 where
  pub front : List X
  pub last : List X
  pub whole : run ≡ front ++ last
  pub few : length last ≤ extra
  pub fits : run_size size front ≤ page_size

-- A run that a page can hold: it has items, no more than a page may have, and `extra` ones beside. Where these are more than `wide`, its
-- page is within the page size but for its last `extra` items.
pub record IsPageRun {X : Type 0} (page_size wide extra : ℕ) (size : X → ℕ) (run : List X) : Type 0 where
  pub some : 1 ≤ length run
  pub capped : length run ≤ max_items + extra
  pub fits : wide < length run → FitsBut page_size extra size run

-- the runs are the row, in order, and a page can hold each
pub record IsDivided {X : Type 0} (page_size wide extra : ℕ) (size : X → ℕ) (items : List X) (runs : List (List X)) : Type 0 where
  pub whole : flat_map (λ run. run) runs ≡ items
  pub each : AllByRecursion (IsPageRun page_size wide extra size) runs

-- a level of branches has at most half as many pages as the level below, rounded up
abbrev pub IsHalved : {X : Type 0} → List X → List (List X) → Type 0
IsHalved items runs = 2 * length runs ≤ suc (length items)
