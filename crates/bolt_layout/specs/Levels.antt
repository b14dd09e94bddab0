-- The pages of a bucket over its items: the leaves, and the branches above, level by level: docs/LAYOUT.md, "Levels" and "Numbers".
use Rattle.std.specs.Prelude.{◌≡◌, ◌≤◌, ℕ, zero, suc, ◌+◌, ◌-◌, ◌*◌, ◌/◌, List, [], ◌∷◌, ◌++◌, length, map}
use Rattle.bolt_format.specs.{Elements.BranchElement, Elements.LeafElement, Pages.PageView}
use Rattle.bolt_format.specs.declared.header.Kind.TheVariants as kind
use Rattle.bolt_layout.specs.{Cut.branch_cut, Cut.cut_of, Cut.run_size, Laid.Laid, Laid.elements_of, Laid.first_key, Laid.held_in, Laid.numbers_of}
use Rattle.bolt_layout.specs.{Laid.pages_of, Laid.size_of, declared.Layout.Layout}

-- the least number of further pages with which a page has room for this many bytes, of which there is one at least
unfoldable pub overflow_of : (page_size size : ℕ) → ℕ
overflow_of page_size size = (size - 1) / page_size

-- `further` further pages are enough for a size, and none too many
pub record IsOverflow (page_size size further : ℕ) : Type 0 where
  pub room : size ≤ (1 + further) * page_size
  pub least : (fewer : ℕ) → size ≤ (1 + fewer) * page_size → further ≤ fewer

abbrev pub run_overflow : {E : Type 0} → (page_size : ℕ) → List (Laid E) → ℕ
run_overflow page_size run = overflow_of page_size (run_size size_of run)

abbrev pub leaf_page_view : (overflow : ℕ) → List LeafElement → PageView
leaf_page_view overflow elements = record { kind = kind.Leaf; count = length elements; overflow = overflow; branches = []; leaves = elements }

abbrev pub branch_page_view : (overflow : ℕ) → List BranchElement → PageView
branch_page_view overflow elements = record { kind = kind.Branch; count = length elements; overflow = overflow; branches = elements; leaves = [] }

-- A page over a run of items: the pages below it from left to right, and then the page itself. The page above has its first key and its
-- number.
abbrev pub page_over : {E : Type 0} → (ℕ → List E → PageView) → (page_size : ℕ) → List (Laid E) → Laid BranchElement
page_over view page_size run = record {
  key = first_key run;
  size = 16 + length (first_key run);
  numbers = numbers_of run + (1 + run_overflow page_size run);
  held = held_in run;
  pages = λ number. pages_of run number ++ record { number = number + numbers_of run; view = view (run_overflow page_size run) (elements_of run number) } ∷ [];
  element = λ number. record { key = first_key run; child = number + numbers_of run };
}

-- the leaf pages over the items of a bucket
abbrev pub leaf_level : (page_size : ℕ) → List (Laid LeafElement) → List (Laid BranchElement)
leaf_level page_size items = map (page_over leaf_page_view page_size) (cut_of page_size 1 size_of items)

-- the branch pages over the pages of a level
abbrev pub next_level : (which : Layout) (page_size : ℕ) → List (Laid BranchElement) → List (Laid BranchElement)
next_level which page_size level = map (page_over branch_page_view page_size) (branch_cut which page_size size_of level)

-- The top page over a level: the page of a level that has no other, and otherwise that of the next level. Over no page it is an empty leaf.
-- It is found in as many steps as the level has pages, since each level has fewer than the one below.
abbrev pub top_in : (which : Layout) (steps page_size : ℕ) → List (Laid BranchElement) → Laid BranchElement
top_in which steps page_size [] = page_over leaf_page_view page_size []
top_in which steps page_size (page ∷ []) = page
top_in which zero page_size (page ∷ other ∷ level) = page
top_in which (suc steps) page_size (page ∷ other ∷ level) = top_in which steps page_size (next_level which page_size (page ∷ other ∷ level))

abbrev pub top_of : (which : Layout) (page_size : ℕ) → List (Laid BranchElement) → Laid BranchElement
top_of which page_size level = top_in which (length level) page_size level

-- while a level has more than one page, the top over it is the top over the next level
abbrev pub TopIsAbove : Type 0
TopIsAbove =
    (which : Layout) (page_size : ℕ) (level : List (Laid BranchElement)) → 2 ≤ length level
    → top_of which page_size level ≡ top_of which page_size (next_level which page_size level)

-- the root page of a bucket with these items
unfoldable pub root_over : (which : Layout) (page_size : ℕ) → List (Laid LeafElement) → Laid BranchElement
root_over which page_size items = top_of which page_size (leaf_level page_size items)
