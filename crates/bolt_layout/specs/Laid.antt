-- What goes onto a page, with the pages below it: docs/LAYOUT.md, "Numbers" and "Held items".
use Rattle.std.specs.Prelude.{ℕ, ◌+◌, List, [], ◌∷◌, ◌++◌, max}
use Rattle.bolt_format.specs.Pages.{PageView}

-- a page and its number
pub record Placed : Type 0 where
  pub number : ℕ
  pub view : PageView

-- An item: its key, the bytes that it takes on its page, how many page numbers are below it, and the greatest number of items that are held
-- at one time while the pages below it are written. From a first number on it also has these pages, and the element that goes onto its
-- page.
pub record Laid (E : Type 0) : Type 0 where
  pub key : List ℕ
  pub size : ℕ
  pub numbers : ℕ
  pub held : ℕ
  pub pages : ℕ → List Placed
  pub element : ℕ → E

abbrev pub size_of : {E : Type 0} → Laid E → ℕ
size_of item = item.size

-- a row of items, from left to right: the page numbers below them, the pages from a number on, and the elements
abbrev pub numbers_of : {E : Type 0} → List (Laid E) → ℕ
numbers_of [] = 0
numbers_of (item ∷ items) = item.numbers + numbers_of items

abbrev pub pages_of : {E : Type 0} → List (Laid E) → ℕ → List Placed
pages_of [] number = []
pages_of (item ∷ items) number = item.pages number ++ pages_of items (number + item.numbers)

abbrev pub elements_of : {E : Type 0} → List (Laid E) → ℕ → List E
elements_of [] number = []
elements_of (item ∷ items) number = item.element number ∷ elements_of items (number + item.numbers)

abbrev pub first_key : {E : Type 0} → List (Laid E) → List ℕ
first_key [] = []
first_key (item ∷ items) = item.key

-- An item is held from when it joins its run until the page over the run is written. The items of a run join from left to right, each
-- after the pages below it: so while these are written, the items on its left are held as well.
abbrev pub held_in : {E : Type 0} → List (Laid E) → ℕ
held_in [] = 0
held_in (item ∷ items) = max item.held (1 + held_in items)
