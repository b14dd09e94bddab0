-- What holds of a leaf item, and of a row of them: they are read back, and have room on their page.
use Rattle.bolt_layout.proofs.SpanLemmas.{length-leaf_bytes}
use Rattle.bolt_layout.proofs.Words.{AllByRecursion, bucket_spots, common_steps, elements_of, follow, Laid, leaf_data, leaf_entry, leaf_page_view}
use Rattle.bolt_layout.proofs.Words.{LeafElement, length-append, Nodes, numbers_of, size_of, sum_by-cons, value_fault, length-header_bytes}
use Rattle.bolt_layout.proofs.{LeafLemmas.IsLeafFit, OverRows.IsRun, Parts.IsPart, PageRows.HasRoom, PageRows.IsPageFit, PageRows.overflow_room}
use Rattle.bolt_layout.proofs.{PageRows.overflow_small}
use Rattle.bolt_layout.proofs.LaidPages.{AreNodes, HasPages, limit, own_page}
use Rattle.std.proofs.Common.{◌≡◌, ℕ, ◌+◌, ◌*◌, ◌<◌, ◌≤◌, List, [], ◌∷◌, length, refl, arith, sum_by}

-- What holds of a leaf item.
pub record IsItem (page_size : ℕ) (item : Laid LeafElement) : Type 0 where
  pub pages : HasPages page_size item
  pub some : 1 ≤ length item.key
  pub short : length item.key ≤ 0x40000000
  pub most : item.size ≤ 0xFFFFFFEF
  pub key : (n : ℕ) → (item.element n).key ≡ item.key
  pub size : (n : ℕ) → item.size ≡ 16 + (length item.key + length (item.element n).value)
  pub fit : (n : ℕ) → 1 ≤ n → n + item.numbers ≤ limit → IsLeafFit value_fault (item.element n)
  pub part : (nodes : Nodes) (n host : ℕ) → 1 ≤ n → n + item.numbers ≤ limit → AreNodes nodes (item.pages n)
      → IsPart nodes (follow nodes (bucket_spots host (leaf_entry (item.element n)))) n (n + item.numbers)

pub length-elements : {E : Type 0} (items : List (Laid E)) (n : ℕ) → length (elements_of items n) ≡ length items
length-elements [] n = refl
length-elements (item ∷ items) n = let ih = length-elements items (n + item.numbers) in omega arith

pub items_fit : (page_size : ℕ) (items : List (Laid LeafElement)) → AllByRecursion (IsItem page_size) items → (n : ℕ) → 1 ≤ n
    → n + numbers_of items ≤ limit
    → AllByRecursion (IsLeafFit value_fault) (elements_of items n)
items_fit page_size [] all n some h = tt
items_fit page_size (item ∷ items) all n some h =
    (all.0.fit n some (omega arith), items_fit page_size items all.1 (n + item.numbers) (omega arith) (omega arith))

pub items_size : (page_size : ℕ) (items : List (Laid LeafElement)) → AllByRecursion (IsItem page_size) items → (n : ℕ)
    → sum_by size_of items ≡ 16 * length (elements_of items n) + length (leaf_data (elements_of items n))
items_size page_size [] all n = refl
items_size page_size (item ∷ items) all n = grind (arith, common_steps, sum_by-cons, length-append, items_size page_size items all.1 (n + item.numbers))

pub leaf_own_room : (page_size : ℕ) (run : List (Laid LeafElement)) → 0 < page_size → AllByRecursion (IsItem page_size) run → (n : ℕ)
    → HasRoom page_size (own_page leaf_page_view page_size run n)
leaf_own_room page_size run sized all n = grind (arith, items_size, overflow_room, length-header_bytes, length-leaf_bytes, length-append)

pub leaf_own : (page_size : ℕ) (run : List (Laid LeafElement)) → 0 < page_size → AllByRecursion (IsItem page_size) run → IsRun run → (n : ℕ) → 1 ≤ n
    → n + numbers_of run < limit
    → IsPageFit page_size (own_page leaf_page_view page_size run n)
leaf_own page_size run sized all fits n some h = grind (arith, items_size, length-elements, overflow_room, overflow_small, items_fit)
