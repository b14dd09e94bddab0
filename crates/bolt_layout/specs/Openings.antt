-- The limits of the rows of all buckets of a tree that have a root page. A pass from left to right opens one bucket after the other:
-- a bucket, then those inside it, then those after it. In this order they are numbered.
use Rattle.std.specs.Prelude.{suc, zero, ◌≡◌, ◌==◌, ◌+◌, ℕ, false, nat_lt, List, [], ◌∷◌, length, map, Option, None, if◌then◌else◌}
use Rattle.bolt_format.specs.Elements.{BranchElement, LeafElement}
use Rattle.bolt_tree.specs.Tree.{Tree, end, with_bucket, with_value}
use Rattle.bolt_layout.specs.{Cut.cut_from, Cut.cut_of, Items.is_inline, Items.items_of, Laid.Laid, Laid.size_of, Levels.leaf_page_view}
use Rattle.bolt_layout.specs.{Levels.next_level, Levels.page_over}
use Rattle.bolt_layout.specs.{Limits.HaveRightLimits, Limits.last_length, Limits.limit_at, Limits.limits_from_ends, declared.Layout.Layout}
use Rattle.bolt_layout.specs.{declared.Layout.TheVariants.Plain}

-- all leaf pages of a bucket with these items: one empty page where it has none
abbrev pub leaf_pages : (page_size : ℕ) → List (Laid LeafElement) → List (Laid BranchElement)
leaf_pages page_size items = map (page_over leaf_page_view page_size) (cut_from page_size 1 size_of [] items)

-- How many buckets of a tree a pass opens: those with a root page, each with those inside it.
abbrev pub opened_in : Layout → (page_size : ℕ) → Tree → ℕ
opened_in which page_size end = 0
opened_in which page_size (with_value key value after) = opened_in which page_size after
opened_in which page_size (with_bucket key sequence inside after) =
    (if is_inline page_size inside (items_of which page_size inside) then 0 else suc (opened_in which page_size inside)) + opened_in which page_size after

-- for one bucket with this inside
abbrev pub opened_by : Layout → (page_size : ℕ) → Tree → ℕ
opened_by which page_size inside = if is_inline page_size inside (items_of which page_size inside) then 0 else suc (opened_in which page_size inside)

-- Limits, by the number of a bucket and the level of a row, are right for each bucket that a pass opens in a tree, where it opens the
-- first of them as number n.
abbrev pub AreRight : Layout → (page_size : ℕ) → (limits : ℕ → ℕ → Option ℕ) → (n : ℕ) → Tree → Type 0
AreRight which page_size limits n end = Unit {0}
AreRight which page_size limits n (with_value key value after) = AreRight which page_size limits n after
AreRight which page_size limits n (with_bucket key sequence inside after) =
    (is_inline page_size inside (items_of which page_size inside) ≡ false
    → HaveRightLimits which page_size (limits n) (leaf_pages page_size (items_of which page_size inside)) × AreRight which page_size limits (suc n) inside)
    × AreRight which page_size limits (n + opened_by which page_size inside) after

-- How the rows of the plain layout over a level of pages end, as far as they have two pages. There are no more rows than pages.
abbrev pub row_ends : (steps page_size : ℕ) → List (Laid BranchElement) → List (ℕ × ℕ)
row_ends steps page_size [] = []
row_ends steps page_size (page ∷ []) = []
row_ends zero page_size (page ∷ other ∷ pages) = []
row_ends (suc steps) page_size (page ∷ other ∷ pages) =
    (length (cut_of page_size 2 size_of (page ∷ other ∷ pages)), last_length (cut_of page_size 2 size_of (page ∷ other ∷ pages)))
    ∷ row_ends steps page_size (next_level Plain page_size (page ∷ other ∷ pages))

abbrev pub row_ends_of : (page_size : ℕ) → List (Laid BranchElement) → List (ℕ × ℕ)
row_ends_of page_size pages = row_ends (length pages) page_size pages

-- the limit of each row of the balanced layout, by the number of the bucket and the level, as the ends of the plain rows give it
abbrev pub limits_below : (page_size n : ℕ) → Tree → (bucket level : ℕ) → Option ℕ
limits_below page_size n end bucket level = None
limits_below page_size n (with_value key value after) bucket level = limits_below page_size n after bucket level
limits_below page_size n (with_bucket key sequence inside after) bucket level =
    if is_inline page_size inside (items_of Plain page_size inside) then limits_below page_size n after bucket level
    else (if bucket == n then limit_at (limits_from_ends false (row_ends_of page_size (leaf_pages page_size (items_of Plain page_size inside)))) level
    else (if nat_lt bucket (suc n + opened_in Plain page_size inside) then limits_below page_size (suc n) inside bucket level
    else limits_below page_size (suc n + opened_in Plain page_size inside) after bucket level))

-- The root bucket is opened first.
abbrev pub limits_for : (page_size : ℕ) → Tree → (bucket level : ℕ) → Option ℕ
limits_for page_size tree zero level = limit_at (limits_from_ends false (row_ends_of page_size (leaf_pages page_size (items_of Plain page_size tree)))) level
limits_for page_size tree (suc bucket) level = limits_below page_size 1 tree (suc bucket) level

-- Limits are those that the ends of the plain rows give, for each bucket that a pass over the plain layout opens.
abbrev pub AreFromEnds : (page_size : ℕ) → (limits : ℕ → ℕ → Option ℕ) → (n : ℕ) → Tree → Type 0
AreFromEnds page_size limits n end = Unit {0}
AreFromEnds page_size limits n (with_value key value after) = AreFromEnds page_size limits n after
AreFromEnds page_size limits n (with_bucket key sequence inside after) =
    (is_inline page_size inside (items_of Plain page_size inside) ≡ false
    → ((level : ℕ) → limits n level ≡ limit_at (limits_from_ends false (row_ends_of page_size (leaf_pages page_size (items_of Plain page_size inside)))) level)
    × AreFromEnds page_size limits (suc n) inside)
    × AreFromEnds page_size limits (n + opened_by Plain page_size inside) after
