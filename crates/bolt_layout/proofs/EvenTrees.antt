-- The buckets of a tree are laid out as bbolt writes them, in their own pages and inline.
use Rattle.std.proofs.Common.{◌≡◌, ℕ, ◌+◌, ◌^◌, ◌<◌, ◌≤◌, Bool, true, false, List, [], None, length, refl, subst, sym, arith}
use Rattle.std.proofs.lemmas.Bool.{leb-true}
use Rattle.std.proofs.lemmas.Bool.{false≢true}
use Rattle.bolt_layout.proofs.Words.{AllByRecursion, and_parts, append-nil, bucket_item, elements_of, end, eq-eqb, HasLengths, head_bytes, head_root}
use Rattle.bolt_layout.proofs.Words.{head_written, inline_value, is_inline, items_of, key_cmp, keys_in, Laid, largest_page, Layout, leaf_item}
use Rattle.bolt_layout.proofs.Words.{LeafElement, max_items, ne_eqb, Rises, RisesInside, root_over, stored_bucket, Tree, with_bucket, with_value}
use Rattle.bolt_layout.proofs.{EvenPages.IsEven, EvenPages.IsNeatItem, EvenPages.over_even, InlineLemmas.inline_unnumbered, LaidItems.IsItem}
use Rattle.bolt_layout.proofs.{LaidItems.length-elements, LaidPages.limit}
use Rattle.bolt_layout.proofs.{OverRows.IsOver, TreeItems.inline_read, TreeItems.root_page, TreeItems.root_stands, TreeItems.tree_items}
use Rattle.bolt_layout.proofs.{TreeItems.tree_rise}
use Rattle.bolt_format.specs.{Elements.inline_number, Gaps.inline_gap}

-- an inline bucket has few items
inline_few : (page_size : ℕ) (inside : Tree) (items : List (Laid LeafElement)) → is_inline page_size inside items ≡ true → length items ≤ max_items
inline_few page_size inside items e = grind (arith, and_parts, leb-true)

value_neat : (key value : List ℕ) → IsNeatItem (leaf_item key value false)
value_neat key value = record { key = λ n. refl; own = λ nodes n some h shown bucket. absurd (false≢true bucket); below = λ nodes n some h shown. tt }

inline_neat : (key value : List ℕ) → head_root value ≡ 0 → inline_number value ≡ 0 → inline_gap value ≡ None → IsNeatItem (leaf_item key value true)
inline_neat key value root number no_gap = grind (arith, eq-eqb)

root_neat : (which : Layout) (page_size : ℕ) (key : List ℕ) (sequence : ℕ) (items : List (Laid LeafElement)) → sequence < 256 ^ 8
    → ((n : ℕ) → (n ≤ ((root_over which page_size items).element n).child)
    × (((root_over which page_size items).element n).child < n + (root_over which page_size items).numbers))
    → (height : ℕ) → ((root_over which page_size items).numbers ≤ limit → height ≤ 63) → IsOver page_size height (root_over which page_size items) items
    → AllByRecursion IsNeatItem items → IsNeatItem (bucket_item key sequence (root_over which page_size items))
root_neat which page_size key sequence items narrow child height low over all =
    let root = root_over which page_size items in
    let value : ℕ → List ℕ = λ n. head_bytes (root.element n).child sequence in
    let head : (n : ℕ) → (root.element n).child < 256 ^ 8 → head_root (value n) ≡ (root.element n).child =
    λ n h. (head_written (value n) [] (root.element n).child sequence (sym (append-nil (value n))) h narrow).root in
    record {
      key = λ n. refl;
      own = λ nodes n some h shown bucket.
          let bounds = child n in
          let same = head n (omega arith) in (
            λ inline. absurd (let paged = ne_eqb (head_root (value n)) 0 (λ none. omega arith) in cc),
            λ paged. (
              height,
              low (omega arith),
              subst (IsEven nodes height) (sym same) (over_even nodes page_size height root items over all n some h shown).0,
            ),
          );
      below = λ nodes n some h shown. (over_even nodes page_size height root items over all n some h shown).1;
    }

stored_neat : (which : Layout) (page_size : ℕ) (key : List ℕ) (sequence : ℕ) (inside : Tree) → 0 < page_size → page_size ≤ largest_page
    → sequence < 256 ^ 8
    → HasLengths inside → Rises key_cmp (keys_in inside) → AllByRecursion (IsItem page_size) (items_of which page_size inside)
    → AllByRecursion IsNeatItem (items_of which page_size inside) → (b : Bool)
    → is_inline page_size inside (items_of which page_size inside) ≡ b
    → IsNeatItem (stored_bucket which page_size key sequence inside (items_of which page_size inside))
stored_neat which page_size key sequence inside sized small narrow lengths rises all neat true e =
    let read = inline_read which page_size sequence inside small narrow lengths all e in
    let es : List LeafElement = elements_of (items_of which page_size inside) 0 in
    let count = length-elements (items_of which page_size inside) 0 in
    let most = inline_few page_size inside (items_of which page_size inside) e in
    let few : length es < 256 ^ 2 = omega arith in
    rw e (inline_neat key (inline_value sequence es) read.1 (inline_unnumbered sequence es narrow few) read.6)
stored_neat which page_size key sequence inside sized small narrow lengths rises all neat false e =
    let items = items_of which page_size inside in
    let (height, low, over) = root_stands which page_size items small all in
    let (other, less, page) = root_page which page_size items sized small all (tree_rise which page_size inside rises) in
    rw e (root_neat which page_size key sequence items narrow page.child height low over neat)

-- the items of a tree
pub tree_neat : (which : Layout) (page_size : ℕ) → 0 < page_size → page_size ≤ largest_page → (tree : Tree) → HasLengths tree → RisesInside tree
    → AllByRecursion IsNeatItem (items_of which page_size tree)
tree_neat which page_size sized small end lengths rises = tt
tree_neat which page_size sized small (with_value key value after) lengths rises =
    (value_neat key value, tree_neat which page_size sized small after lengths.2 rises)
tree_neat which page_size sized small (with_bucket key sequence inside after) lengths rises =
    let items = items_of which page_size inside in
    let all = tree_items which page_size sized small inside lengths.2 rises.1 in
    let neat = tree_neat which page_size sized small inside lengths.2 rises.1 in (
      stored_neat which page_size key sequence inside sized small lengths.1 lengths.2 rises.0 all neat (is_inline page_size inside items) refl,
      tree_neat which page_size sized small after lengths.3 rises.2,
    )
