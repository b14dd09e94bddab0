-- How many buckets a pass opens: as many in both layouts, and no more than there are page numbers.
use Rattle.std.proofs.Common.{◌≡◌, ◌≤◌, ◌+◌, ℕ, suc, false, List, [], ◌∷◌, length, refl, arith}
use Rattle.bolt_layout.proofs.Words.{Balanced, end, is_inline, items_of, Laid, Layout, leaf_pages, LeafElement, length-map, numbers_of, opened_by}
use Rattle.bolt_layout.proofs.Words.{opened_in, Plain, root_of, root_over, stored_bucket, Tree, with_bucket, with_value}
use Rattle.bolt_layout.proofs.{HeldBounds.level_numbers, LastItem.some_runs, PlainNumbers.leaves_numbers, SameFaces.inline_alike, Weights.own_numbers}

-- The same buckets have a root page.
one_same : (page_size : ℕ) (inside : Tree) → opened_in Plain page_size inside ≡ opened_in Balanced page_size inside
    → opened_by Plain page_size inside ≡ opened_by Balanced page_size inside
one_same page_size inside same = let inline = inline_alike page_size inside in rw (inline, same) refl

pub opened_same : (page_size : ℕ) (tree : Tree) → opened_in Plain page_size tree ≡ opened_in Balanced page_size tree
opened_same page_size end = refl
opened_same page_size (with_value key value after) = opened_same page_size after
opened_same page_size (with_bucket key sequence inside after) =
    omega (arith, one_same page_size inside (opened_same page_size inside), opened_same page_size after)

pub opened_by_same : (page_size : ℕ) (inside : Tree) → opened_by Plain page_size inside ≡ opened_by Balanced page_size inside
opened_by_same page_size inside = one_same page_size inside (opened_same page_size inside)

-- A root page has a number beside those below the items.
own_some : {E : Type 0} (page_size : ℕ) (runs : List (List (Laid E))) → 1 ≤ length runs → 1 ≤ own_numbers page_size runs
own_some page_size [] some = absurd (omega arith)
own_some page_size (run ∷ runs) some = omega arith

root_some : (which : Layout) (page_size : ℕ) (items : List (Laid LeafElement)) → suc (numbers_of items) ≤ (root_over which page_size items).numbers
unfolding root_over
root_some which page_size items = grind (arith, leaves_numbers, own_some, some_runs, level_numbers)

-- A bucket with a root page has no more leaf pages than it has page numbers,
own_count : {E : Type 0} (page_size : ℕ) (runs : List (List (Laid E))) → length runs ≤ own_numbers page_size runs
own_count page_size [] = omega arith
own_count page_size (run ∷ runs) = let rest = own_count page_size runs in omega arith

pub items_leaves : (which : Layout) (page_size : ℕ) (items : List (Laid LeafElement))
    → length (leaf_pages page_size items) + numbers_of items ≤ (root_over which page_size items).numbers
unfolding root_over
items_leaves which page_size items = grind (arith, leaves_numbers, own_count, length-map, level_numbers)

pub leaves_few : (which : Layout) (page_size : ℕ) (inside : Tree)
    → length (leaf_pages page_size (items_of which page_size inside)) + numbers_of (items_of which page_size inside)
    ≤ (root_over which page_size (items_of which page_size inside)).numbers
leaves_few which page_size inside = items_leaves which page_size (items_of which page_size inside)

-- and no more than the bucket around it has below its items.
pub items_below : (which : Layout) (page_size : ℕ) (key : List ℕ) (sequence : ℕ) (inside after : Tree)
    → (is_inline page_size inside (items_of which page_size inside) ≡ false
    → (root_over which page_size (items_of which page_size inside)).numbers ≤ numbers_of (items_of which page_size (with_bucket key sequence inside after)))
    × (numbers_of (items_of which page_size after) ≤ numbers_of (items_of which page_size (with_bucket key sequence inside after)))
items_below which page_size key sequence inside after = ((λ rooted. rw rooted (omega arith)), omega arith)

stored_few : (which : Layout) (page_size : ℕ) (key : List ℕ) (sequence : ℕ) (inside : Tree)
    → opened_in which page_size inside ≤ numbers_of (items_of which page_size inside)
    → opened_by which page_size inside ≤ (stored_bucket which page_size key sequence inside (items_of which page_size inside)).numbers
stored_few which page_size key sequence inside few = grind (arith, root_some)

items_few : (which : Layout) (page_size : ℕ) (tree : Tree) → opened_in which page_size tree ≤ numbers_of (items_of which page_size tree)
items_few which page_size end = omega arith
items_few which page_size (with_value key value after) = let rest = items_few which page_size after in omega arith
items_few which page_size (with_bucket key sequence inside after) =
    omega (arith, stored_few which page_size key sequence inside (items_few which page_size inside), items_few which page_size after)

pub opened_few : (page_size : ℕ) (which : Layout) (tree : Tree) → opened_in which page_size tree ≤ (root_of which page_size tree).numbers
unfolding root_of
opened_few page_size which tree = omega (arith, items_few, root_some)
