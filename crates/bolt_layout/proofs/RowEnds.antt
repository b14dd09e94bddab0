-- The ends of the plain rows over a level of pages are found in as many steps as there are pages, and there are no others.
use Rattle.std.proofs.Common.{◌≡◌, ◌≤◌, ℕ, suc, List, [], ◌∷◌, length, refl, arith}
use Rattle.bolt_layout.proofs.{Words.AreRowEnds, Words.BranchElement, Words.Laid, Words.next_level, Words.Plain, Words.row_ends_of, Tops.shorter}
use Rattle.bolt_layout.specs.Openings.{row_ends}

steps_to_ends : (steps page_size : ℕ) (pages : List (Laid BranchElement)) → length pages ≤ suc steps
    → AreRowEnds page_size pages (row_ends steps page_size pages)
steps_to_ends (suc steps) page_size (page ∷ other ∷ pages) fuel =
    let less = shorter Plain page_size (page ∷ other ∷ pages) (omega arith) in
    (omega arith, refl, refl, steps_to_ends steps page_size (next_level Plain page_size (page ∷ other ∷ pages)) (omega arith))
steps_to_ends steps page_size pages fuel = grind arith

pub row_ends_are : (page_size : ℕ) (pages : List (Laid BranchElement)) → AreRowEnds page_size pages (row_ends_of page_size pages)
row_ends_are page_size pages = steps_to_ends (length pages) page_size pages (omega arith)

steps_one : (steps page_size : ℕ) (pages : List (Laid BranchElement)) (rows : List (ℕ × ℕ)) → length pages ≤ suc steps
    → AreRowEnds page_size pages rows
    → rows ≡ row_ends steps page_size pages
steps_one steps page_size [] [] fuel noted = refl
steps_one steps page_size (page ∷ []) [] fuel noted = refl
steps_one (suc steps) page_size (page ∷ other ∷ pages) ((runs, last) ∷ rows) fuel (two, r, m, noted) =
    let level : List (Laid BranchElement) = page ∷ other ∷ pages in
    let less = shorter Plain page_size level (omega arith) in
    let ih = steps_one steps page_size (next_level Plain page_size level) rows (omega arith) noted in
    grind arith
steps_one steps page_size pages rows fuel noted = absurd (grind arith)

pub row_ends_are_one : (page_size : ℕ) (pages : List (Laid BranchElement)) (rows : List (ℕ × ℕ)) → AreRowEnds page_size pages rows
    → rows ≡ row_ends_of page_size pages
row_ends_are_one page_size pages rows noted = steps_one (length pages) page_size pages rows (omega arith) noted
