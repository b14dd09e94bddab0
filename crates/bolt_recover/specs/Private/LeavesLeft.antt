-- What is found among what is left over.
use Rattle.std.specs.Prelude.{◌≡◌, ◌<◌, ◌↔◌, ℕ, List, true}
use Rattle.bolt_check.specs.Leftovers.{is_listed, is_taken, leftovers_file, leftovers_length, leftovers_meta}
use Rattle.bolt_check.specs.{LoneLeaves.IsListedFree, declared.leftovers.Leftovers.Leftovers}
use Rattle.bolt_recover.specs.{Found.FoundBelow, Found.found_numbers, declared.found_page.FoundPage.FoundPage}

-- the pages that are listed as free are noted
abbrev pub NotesFree : Leftovers → Type 0
NotesFree leftovers =
    (n : ℕ) → n < leftovers_length leftovers → (is_listed leftovers n ≡ true) ↔ IsListedFree (leftovers_file leftovers) (leftovers_meta leftovers) n

-- the pages are those found among what is left over, if the taken pages are the kept ones
abbrev pub AreAmong : Leftovers → List FoundPage → Type 0
AreAmong leftovers found =
    FoundBelow (leftovers_file leftovers) (leftovers_meta leftovers) (λ n. is_taken leftovers n ≡ true) (leftovers_meta leftovers).high_water
    (found_numbers found)
