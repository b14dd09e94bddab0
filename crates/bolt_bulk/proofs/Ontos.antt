-- Entries that are values, in front of a tree: what they are as items, and whether a bucket with them is inline.
use Rattle.std.proofs.{lemmas.Grind.common_steps, lemmas.Bool.le-leb, lemmas.Bool.lt-leb, lemmas.List.length-append, lemmas.List.Sums.sum_by-cons}
use Rattle.std.proofs.Common.{◌≡◌, ℕ, ◌+◌, ◌/◌, ◌≤◌, ◌<◌, ◌⊎◌, ◌&&◌, Bool, true, false, List, [], ◌∷◌, ◌++◌, length, refl, sym, ap, arith}
use Rattle.std.specs.List.{AllByRecursion}
use Rattle.bolt_format.specs.Elements.{LeafElement}
use Rattle.bolt_tree.specs.Tree.{Tree, end, with_bucket, with_value}
use Rattle.bolt_layout.specs.{Cut.run_size, Items.holds_bucket, Items.is_inline, Items.items_of, Items.leaf_item}
use Rattle.bolt_layout.specs.{Laid.Laid, Laid.elements_of, Laid.held_in, Laid.numbers_of, Laid.pages_of, Laid.size_of, declared.Layout.Layout}
use Rattle.bolt_bulk.specs.Private.{entries_size, IsKeyedItem, onto}

abbrev pub IsValue : LeafElement → Type 0
IsValue e = e.is_bucket ≡ false

-- the items of entries that are values
abbrev pub value_items : List LeafElement → List (Laid LeafElement)
value_items [] = []
value_items (e ∷ entries) = leaf_item e.key e.value false ∷ value_items entries

-- they have no pages below them, so no more are held than they are
pub values_held : (entries : List LeafElement) → held_in (value_items entries) ≤ length (value_items entries)
values_held [] = omega arith
values_held (e ∷ entries) = let ih = values_held entries in omega arith

pub onto_items : (which : Layout) (page_size : ℕ) (entries : List LeafElement) (tree : Tree)
    → items_of which page_size (onto entries tree) ≡ value_items entries ++ items_of which page_size tree
onto_items which page_size [] tree = refl
onto_items which page_size (e ∷ entries) tree =
    ap (λ (items : List (Laid LeafElement)). leaf_item e.key e.value false ∷ items) (onto_items which page_size entries tree)

pub onto_push : (entries : List LeafElement) (e : LeafElement) (tree : Tree)
    → onto (entries ++ e ∷ []) tree ≡ onto entries (with_value e.key e.value tree)
onto_push [] e tree = refl
onto_push (x ∷ entries) e tree = ap (λ (t : Tree). with_value x.key x.value t) (onto_push entries e tree)

pub onto_holds : (entries : List LeafElement) (tree : Tree) → holds_bucket (onto entries tree) ≡ holds_bucket tree
onto_holds [] tree = refl
onto_holds (e ∷ entries) tree = onto_holds entries tree

pub values_size : (entries : List LeafElement) → run_size size_of (value_items entries) ≡ entries_size entries
values_size [] = refl
values_size (e ∷ entries) = grind (arith, common_steps, sum_by-cons, length-append, values_size entries)

pub onto_size : (which : Layout) (page_size : ℕ) (entries : List LeafElement) (tree : Tree)
    → run_size size_of (items_of which page_size (onto entries tree)) + 16 ≡ entries_size entries + run_size size_of (items_of which page_size tree)
onto_size which page_size [] tree = omega arith
onto_size which page_size (e ∷ entries) tree = grind (arith, common_steps, sum_by-cons, length-append, onto_size which page_size entries tree)

pub onto_count : (which : Layout) (page_size : ℕ) (entries : List LeafElement) (tree : Tree)
    → length (items_of which page_size (onto entries tree)) ≡ length entries + length (items_of which page_size tree)
onto_count which page_size [] tree = omega arith
onto_count which page_size (e ∷ entries) tree = let ih = onto_count which page_size entries tree in omega arith

same_value : (e : LeafElement) → IsValue e → record { key = e.key; value = e.value; is_bucket = false } ≡ e
same_value e v = ap (λ (b : Bool). record { key = e.key; value = e.value; is_bucket = b }) (sym v)

pub values_elements : (entries : List LeafElement) (n : ℕ) → AllByRecursion IsValue entries → elements_of (value_items entries) n ≡ entries
values_elements [] n all = refl
values_elements (e ∷ entries) n all = grind (arith, same_value, values_elements entries (n + 0) all.1)

pub values_numbers : (entries : List LeafElement) → numbers_of (value_items entries) ≡ 0
values_numbers [] = refl
values_numbers (e ∷ entries) = let ih = values_numbers entries in omega arith

pub values_pages : (entries : List LeafElement) (n : ℕ) → pages_of (value_items entries) n ≡ []
values_pages [] n = refl
values_pages (e ∷ entries) n = values_pages entries (n + 0)

pub values_keyed : (entries : List LeafElement) → AllByRecursion IsKeyedItem (value_items entries)
values_keyed [] = tt
values_keyed (e ∷ entries) = ((λ n. refl), values_keyed entries)

-- a bucket of values alone that takes a quarter of a page at most is inline
pub ends_inline : (which : Layout) (page_size : ℕ) (entries : List LeafElement) → entries_size entries ≤ page_size / 4 → length entries ≤ 65534
    → is_inline page_size (onto entries end) (items_of which page_size (onto entries end)) ≡ true
ends_inline which page_size entries small few = grind (arith, onto_holds, onto_size, onto_count, le-leb)

never_first : (a b : Bool) → (a && (false && b)) ≡ false
never_first a b = grind arith

-- one with a value more than takes a quarter of a page, or than a page may have, isn't
pub value_too_large : (which : Layout) (page_size : ℕ) (entries : List LeafElement) (key value : List ℕ) (after : Tree)
    → (page_size / 4 < entries_size entries + (16 + (length key + length value))) ⊎ (65534 ≤ length entries)
    → is_inline page_size (onto entries (with_value key value after)) (items_of which page_size (onto entries (with_value key value after))) ≡ false
value_too_large which page_size entries key value after large = grind (arith, common_steps, sum_by-cons, onto_size, onto_count, lt-leb, never_first)

-- and one that holds a bucket isn't
pub bucket_has_root : (which : Layout) (page_size : ℕ) (entries : List LeafElement) (key : List ℕ) (sequence : ℕ) (inside after : Tree)
    → is_inline page_size (onto entries (with_bucket key sequence inside after))
    (items_of which page_size (onto entries (with_bucket key sequence inside after))) ≡ false
bucket_has_root which page_size entries key sequence inside after = rw (onto_holds entries (with_bucket key sequence inside after)) refl
