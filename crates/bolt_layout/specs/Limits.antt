-- The cut of a row of a bucket's pages by how many runs it may have. One pass from left to right can't know that an item is the last of its
-- row; but where the number of runs is known before, this gives the balanced cut.
-- A pass over the plain layout finds the limits. It knows how many runs each row has, and how many items are in the last one. If a row
-- loses its last run, the row above loses its last item, and nothing else changes there. So, from the leaves up, if the row below has all
-- its pages: a row whose last run has one item, with a run before it, has one run less; any other is as in the plain layout. If the row
-- below lacks its last page: a row whose last run has one item has one run less, and no item joins; if it has two, and there is a run
-- before it, one run less, and the single item joins; any other has as many runs as in the plain layout.
use Rattle.std.specs.Prelude.{zero, suc, ◌≡◌, ◌≤◌, ◌==◌, ◌-◌, ℕ, Bool, true, false, ◌&&◌, nat_lt, List, [], ◌∷◌, ◌++◌, length, Option, Some, None}
use Rattle.std.specs.Prelude.{if◌then◌else◌}
use Rattle.bolt_format.specs.Elements.{BranchElement}
use Rattle.bolt_layout.specs.{Cut.branch_cut, Cut.cut_of, Cut.joins, Laid.Laid, Laid.size_of, Levels.next_level, declared.Layout.Layout}
use Rattle.bolt_layout.specs.{declared.Layout.TheVariants.Plain}

-- how many runs may still begin in a row: any number, or so many
abbrev pub is_out : Option ℕ → Bool
is_out None = false
is_out (Some zero) = true
is_out (Some (suc n)) = false

abbrev pub one_less : Option ℕ → Option ℕ
one_less None = None
one_less (Some n) = Some (n - 1)

-- From the left, as the cut goes; but an item that doesn't join, where no run may begin, joins all the same, and the rest is cut freely.
abbrev pub cut_within : {X : Type 0} → (page_size : ℕ) → (X → ℕ) → (allowed : Option ℕ) → List X → List X → List (List X)
cut_within page_size size allowed run [] = run ∷ []
cut_within page_size size allowed run (next ∷ items) =
    let joined = cut_within page_size size allowed (run ++ next ∷ []) items in
    let forced = cut_within page_size size None (run ++ next ∷ []) items in
    let begun = run ∷ cut_within page_size size (one_less allowed) (next ∷ []) items in
    if joins page_size 2 size run next then joined else (if is_out allowed then forced else begun)

abbrev pub cut_row : {X : Type 0} → (page_size : ℕ) → (X → ℕ) → (allowed : Option ℕ) → List X → List (List X)
cut_row page_size size allowed [] = []
cut_row page_size size allowed (first ∷ items) = cut_within page_size size allowed (first ∷ []) items

-- the k-th level above a level of pages
abbrev pub level_up : Layout → (page_size k : ℕ) → List (Laid BranchElement) → List (Laid BranchElement)
level_up which page_size zero pages = pages
level_up which page_size (suc k) pages = level_up which page_size k (next_level which page_size pages)

abbrev pub limit_at : List (Option ℕ) → ℕ → Option ℕ
limit_at [] k = None
limit_at (limit ∷ limits) zero = limit
limit_at (limit ∷ limits) (suc k) = limit_at limits k

-- limits give the cut of each level above these pages
abbrev pub HaveRightLimits : Layout → (page_size : ℕ) → (limit : ℕ → Option ℕ) → List (Laid BranchElement) → Type 0
HaveRightLimits which page_size limit pages = (k : ℕ) →
    cut_row page_size size_of (limit k) (level_up which page_size k pages) ≡ branch_cut which page_size size_of (level_up which page_size k pages)

-- How the rows of the plain layout above a bucket's leaves end, as far as they have two pages: of each row the number of its runs, and how many
-- items the last run has.
abbrev pub last_length : {X : Type 0} → List (List X) → ℕ
last_length [] = 0
last_length (run ∷ []) = length run
last_length (run ∷ next ∷ runs) = last_length (next ∷ runs)

abbrev pub AreRowEnds : (page_size : ℕ) → List (Laid BranchElement) → List (ℕ × ℕ) → Type 0
AreRowEnds page_size pages [] = length pages ≤ 1
AreRowEnds page_size pages (row ∷ rows) = (2 ≤ length pages)
    × (row.0 ≡ length (cut_of page_size 2 size_of pages)) × (row.1 ≡ last_length (cut_of page_size 2 size_of pages))
    × AreRowEnds page_size (next_level Plain page_size pages) rows

-- The limits of the rows of the balanced layout. In it a row may lack the last item that it has in the plain one: then the last run has one
-- item less. A row that would end in a run of one item, after another run, has one run less; and then the row above lacks its last item.
abbrev pub limits_from_ends : (lost : Bool) → List (ℕ × ℕ) → List (Option ℕ)
limits_from_ends lost [] = []
limits_from_ends false (row ∷ rows) =
    if row.1 == 1 && nat_lt 1 row.0 then Some (row.0 - 2) ∷ limits_from_ends true rows else None ∷ limits_from_ends false rows
limits_from_ends true (row ∷ rows) =
    if row.1 == 1 then None ∷ limits_from_ends true rows
    else (if row.1 == 2 && nat_lt 1 row.0 then Some (row.0 - 2) ∷ limits_from_ends true rows else None ∷ limits_from_ends false rows)
