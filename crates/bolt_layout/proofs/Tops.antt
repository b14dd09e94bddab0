-- The top of a level is that of the next, and a page's overflow is the least.
use Rattle.std.proofs.Common.{◌≡◌, ℕ, suc, ◌≤◌, List, ◌∷◌, length, arith}
use Rattle.bolt_layout.proofs.Words.{branch_cut, branch_page_view, BranchElement, Laid, Layout, length-map, next_level, overflow_of, page_over}
use Rattle.bolt_layout.proofs.Words.{size_of, top_in}
use Rattle.bolt_layout.proofs.Cutting.{branches_halve}
use Rattle.bolt_layout.specs.Levels.{IsOverflow, TopIsAbove}

-- a level of two pages or more has more than the next
pub shorter : (which : Layout) (page_size : ℕ) (level : List (Laid BranchElement)) → 2 ≤ length level
    → suc (length (next_level which page_size level)) ≤ length level
shorter which page_size level h =
    omega (arith, branches_halve which page_size size_of level, length-map (branch_cut which page_size size_of level) (page_over branch_page_view page_size))

-- any number of steps is enough that is not below the number of pages, less one
top_steps : (which : Layout) (page_size s t : ℕ) (level : List (Laid BranchElement)) → length level ≤ suc s → length level ≤ suc t
    → top_in which s page_size level ≡ top_in which t page_size level
top_steps which page_size (suc s) (suc t) (page ∷ other ∷ level) h k =
    let less = shorter which page_size (page ∷ other ∷ level) (omega arith) in
    top_steps which page_size s t (next_level which page_size (page ∷ other ∷ level)) (omega arith) (omega arith)
top_steps which page_size s t level h k = grind arith

pub top_above : TopIsAbove
top_above which page_size is h = grind (arith, shorter, top_steps)

pub overflow_is : (page_size size : ℕ) → 1 ≤ page_size → 1 ≤ size → IsOverflow page_size size (overflow_of page_size size)
unfolding overflow_of
overflow_is page_size size some any = grind arith
