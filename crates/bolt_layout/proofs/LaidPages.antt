-- The pages below a row of items stand in a row and have room, and so do they with the page over the items.
use Rattle.std.proofs.Common.{◌≡◌, ℕ, ◌+◌, ◌^◌, ◌<◌, ◌≤◌, List, [], ◌∷◌, refl, arith}
use Rattle.bolt_lemmas.proofs.Exports.{all_append}
use Rattle.bolt_layout.proofs.Words.{AllByRecursion, elements_of, Laid, node_of, Nodes, numbers_of, page_over, pages_of, PageView, Placed}
use Rattle.bolt_layout.proofs.Words.{run_overflow}
use Rattle.bolt_layout.proofs.{PageRows.HasRoom, PageRows.IsInARow, PageRows.IsPageFit, PageRows.row_append}

-- so many page numbers there are at most
abbrev pub limit : ℕ
limit = 2 ^ 63

-- the pages below an item stand in a row, have room, and are read back where there are not too many
pub record HasPages {E : Type 0} (page_size : ℕ) (item : Laid E) : Type 0 where
  pub row : (n : ℕ) → IsInARow n (item.pages n) (n + item.numbers)
  pub room : (n : ℕ) → AllByRecursion (HasRoom page_size) (item.pages n)
  pub fits : (n : ℕ) → 1 ≤ n → n + item.numbers ≤ limit → AllByRecursion (IsPageFit page_size) (item.pages n)

items_row : {E : Type 0} (page_size : ℕ) (items : List (Laid E)) → AllByRecursion (HasPages page_size) items → (n : ℕ)
    → IsInARow n (pages_of items n) (n + numbers_of items)
items_row page_size [] all n = omega arith
items_row page_size (item ∷ items) all n = grind (arith, row_append, items_row page_size items all.1 (n + item.numbers))

items_room : {E : Type 0} (page_size : ℕ) (items : List (Laid E)) → AllByRecursion (HasPages page_size) items → (n : ℕ)
    → AllByRecursion (HasRoom page_size) (pages_of items n)
items_room page_size [] all n = tt
items_room page_size (item ∷ items) all n = grind (arith, all_append, items_room page_size items all.1 (n + item.numbers))

items_fit : {E : Type 0} (page_size : ℕ) (items : List (Laid E)) → AllByRecursion (HasPages page_size) items → (n : ℕ) → 1 ≤ n
    → n + numbers_of items ≤ limit
    → AllByRecursion (IsPageFit page_size) (pages_of items n)
items_fit page_size [] all n some h = tt
items_fit page_size (item ∷ items) all n some h = grind (arith, all_append, items_fit page_size items all.1 (n + item.numbers) (omega arith) (omega arith))

-- and so do they with the page over the items
abbrev pub own_page : {E : Type 0} → (ℕ → List E → PageView) → (page_size : ℕ) → List (Laid E) → ℕ → Placed
own_page view page_size run n = record { number = n + numbers_of run; view = view (run_overflow page_size run) (elements_of run n) }

pub page_has : {E : Type 0} (page_size : ℕ) (view : ℕ → List E → PageView) (run : List (Laid E)) → AllByRecursion (HasPages page_size) run
    → ((further : ℕ) (es : List E) → (view further es).overflow ≡ further)
    → ((n : ℕ) → HasRoom page_size (own_page view page_size run n))
    → ((n : ℕ) → 1 ≤ n → n + numbers_of run < limit → IsPageFit page_size (own_page view page_size run n))
    → HasPages page_size (page_over view page_size run)
page_has page_size view run all over own_room own_fits = record {
  row = λ n.
      row_append n (n + numbers_of run) _ (pages_of run n) _ (items_row page_size run all n) (refl, omega arith);
  room = λ n. all_append (HasRoom page_size) (pages_of run n) _ (items_room page_size run all n) (own_room n, tt);
  fits = λ n some h. all_append (IsPageFit page_size) (pages_of run n) _ (items_fit page_size run all n some (omega arith)) (own_fits n some (omega arith), tt);
}

-- these nodes are the pages that were placed
abbrev pub AreNodes : Nodes → List Placed → Type 0
AreNodes nodes pages = AllByRecursion (λ (p : Placed). nodes p.number ≡ node_of p.view.kind p.view) pages
