-- The items of a tree are read back, have room, and are parts of a sound tree of pages.
use Rattle.bolt_lemmas.proofs.Exports.{all_weaker}
use Rattle.bolt_layout.proofs.Parts.{none_some, nothing, IsPart, part_inline}
use Rattle.bolt_format.specs.Gaps.{inline_gap}
use Rattle.bolt_layout.proofs.Words.{AllByRecursion, and_parts, append-nil, At_inline, At_page, bucket_item, bucket_spots, common_steps}
use Rattle.bolt_layout.proofs.Words.{contains_head, contains_tail, elements_of, end, eq-eqb, finding_of, follow, HasLengths, head_bytes, head_root}
use Rattle.bolt_layout.proofs.Words.{head_sequence, head_written, holds_bucket, inline_elements, inline_page, inline_finding, inline_value, is_inline}
use Rattle.bolt_layout.proofs.Words.{IsBelow, items_of, Key, key_cmp, keys_in, keys_of, Laid, largest_page, Layout, leaf_data, leaf_entry, leaf_item}
use Rattle.bolt_layout.proofs.Words.{LeafElement, length-append, length-header_bytes, max_items, ne_eqb, Nodes, Rises, RisesInside, root_over}
use Rattle.bolt_layout.proofs.Words.{root_spot, run_size, size_of, Spot, stored_bucket, Tree, value_fault, with_bucket, with_value}
use Rattle.bolt_layout.proofs.{InlineLemmas.IsFlat, InlineLemmas.inline_written, SpanLemmas.length-leaf_bytes, KeyLaws.IsBelowItem, KeyLaws.IsWithin}
use Rattle.bolt_layout.proofs.KeyLaws.{ItemsRise}
use Rattle.bolt_layout.proofs.{OverRows.IsOver, OverRows.root_is_over, LaidPages.limit, LaidItems.IsItem, LaidItems.items_size}
use Rattle.bolt_layout.proofs.{LaidItems.length-elements}
use Rattle.bolt_layout.proofs.{LeafPages.IsPage, LeafPages.above_none, LeafPages.items_keys, BranchPages.over_page}
use Rattle.std.proofs.Common.{rules, ◌≡◌, ◌∙◌, ℕ, ◌+◌, ◌*◌, ◌/◌, ◌^◌, ◌<◌, ◌≤◌, ◌==◌, not, nat_le, Bool, true, false, List, [], ◌∷◌, length, map}
use Rattle.std.proofs.Common.{Option, Some, None, refl, sym, ap, subst, arith}
use Rattle.std.proofs.lemmas.Bool.{leb-true, not-true}
use Rattle.bolt_format.proofs.Exports.{length-head_bytes, root_passes}

-- an item with no pages below it
flat_item : (page_size : ℕ) (key value : List ℕ) (flag : Bool) → 1 ≤ length key → length key ≤ 0x40000000 → length value ≤ 0x7FFFFFFE
    → (flag ≡ true → value_fault value ≡ None)
    → ((nodes : Nodes) (n host : ℕ) → 1 ≤ n
    → IsPart nodes (follow nodes (bucket_spots host (leaf_entry (record { key = key; value = value; is_bucket = flag })))) n (n + 0))
    → IsItem page_size (leaf_item key value flag)
flat_item page_size key value flag some short sized bucket part = search rules

-- a value
value_item : (page_size : ℕ) (key value : List ℕ) → 1 ≤ length key → length key ≤ 0x40000000 → length value ≤ 0x7FFFFFFE
    → IsItem page_size (leaf_item key value false)
value_item page_size key value some short sized = grind (arith, flat_item, none_some, nothing)

-- an inline bucket
flat_elements : (which : Layout) (page_size : ℕ) (tree : Tree) → holds_bucket tree ≡ false → HasLengths tree → (n : ℕ)
    → AllByRecursion IsFlat (elements_of (items_of which page_size tree) n)
flat_elements which page_size (with_value key value after) none lengths n = grind (arith, flat_elements which page_size after none lengths.2 (n + 0))
flat_elements which page_size tree none lengths n = grind arith

keys_same : (es : List LeafElement) → keys_of (map leaf_entry es) ≡ map (λ (e : LeafElement). e.key) es
keys_same [] = refl
keys_same (e ∷ es) = ap (λ (ks : List Key). e.key ∷ ks) (keys_same es)

pub within_none : (items : List (Laid LeafElement)) → AllByRecursion (IsWithin None None) items
within_none [] = tt
within_none (item ∷ items) = ((refl, refl), within_none items)

length-inline_value : (sequence : ℕ) (es : List LeafElement) → length (inline_value sequence es) ≡ 32 + (16 * length es + length (leaf_data es))
unfolding inline_value
length-inline_value sequence es = grind (arith, length-head_bytes, length-header_bytes, length-leaf_bytes, length-append)

inline_spot : (host : ℕ) (e : LeafElement) → e.is_bucket ≡ true → head_root e.value ≡ 0
    → bucket_spots host (leaf_entry e) ≡ Some (At_inline host (inline_page e.value))
inline_spot host e bucket root = let z : (head_root e.value == 0) ≡ true = eq-eqb (head_root e.value) 0 root in rw (bucket, z) refl

-- what an inline bucket's value says
pub inline_read : (which : Layout) (page_size sequence : ℕ) (inside : Tree) → page_size ≤ largest_page → sequence < 256 ^ 8 → HasLengths inside
    → AllByRecursion (IsItem page_size) (items_of which page_size inside)
    → is_inline page_size inside (items_of which page_size inside) ≡ true
    → (value_fault (inline_value sequence (elements_of (items_of which page_size inside) 0)) ≡ None)
    × (head_root (inline_value sequence (elements_of (items_of which page_size inside) 0)) ≡ 0)
    × (head_sequence (inline_value sequence (elements_of (items_of which page_size inside) 0)) ≡ sequence)
    × (inline_elements (inline_value sequence (elements_of (items_of which page_size inside) 0)) ≡ elements_of (items_of which page_size inside) 0)
    × (holds_bucket inside ≡ false)
    × (length (inline_value sequence (elements_of (items_of which page_size inside) 0)) ≤ 0x7FFFFFFE)
    × (inline_gap (inline_value sequence (elements_of (items_of which page_size inside) 0)) ≡ None)
inline_read which page_size sequence inside small sized lengths all inline =
    let items = items_of which page_size inside in
    let es : List LeafElement = elements_of items 0 in
    let parts = and_parts (not (holds_bucket inside)) _ inline in
    let sizes = and_parts (nat_le (run_size size_of items) (page_size / 4)) _ parts.1 in
    let quarter = leb-true (run_size size_of items) (page_size / 4) sizes.0 in
    let few = leb-true (length items) max_items sizes.1 in
    let none = not-true (holds_bucket inside) parts.0 in
    let flat = flat_elements which page_size inside none lengths 0 in
    let size = items_size page_size items all 0 in
    let long = length-elements items 0 in
    let wide = length-inline_value sequence es in
    let written = inline_written sequence es sized flat (omega arith) (omega arith) in
    (written.0, written.1, written.2, written.3, none, omega arith, written.4)

inline_item : (which : Layout) (page_size : ℕ) (key : List ℕ) (sequence : ℕ) (inside : Tree) → page_size ≤ largest_page → 1 ≤ length key
    → length key ≤ 0x40000000 → sequence < 256 ^ 8
    → HasLengths inside → AllByRecursion (IsItem page_size) (items_of which page_size inside) → ItemsRise (items_of which page_size inside)
    → is_inline page_size inside (items_of which page_size inside) ≡ true
    → IsItem page_size (leaf_item key (inline_value sequence (elements_of (items_of which page_size inside) 0)) true)
inline_item which page_size key sequence inside small some short sized lengths all rise inline =
    let items = items_of which page_size inside in
    let es : List LeafElement = elements_of items 0 in
    let value : List ℕ = inline_value sequence es in
    let written = inline_read which page_size sequence inside small sized lengths all inline in
    let keys = items_keys page_size items all None None None 0 rise (above_none items) (within_none items) in
    let named : map (λ (i : LeafElement). i.key) (inline_elements value) ≡ keys_of (map leaf_entry es) =
    ap (λ (x : List LeafElement). map (λ (i : LeafElement). i.key) x) written.3 ∙ sym (keys_same es) in
    flat_item page_size key value true some short (omega arith) (λ e. written.0) (λ nodes n host any.
    let fine : inline_finding host (inline_page value).keys ≡ None = ap (inline_finding host) named ∙ ap (λ (o : Option ℕ). finding_of o host) keys in
    subst (λ (o : Option Spot). IsPart nodes (follow nodes o) n (n + 0))
    (sym (inline_spot host (record { key = key; value = value; is_bucket = true }) refl written.1))
    (part_inline nodes host n (n + 0) (inline_page value) (omega arith) fine))

-- the root page of a bucket's items stands over them
pub root_stands : (which : Layout) (page_size : ℕ) (items : List (Laid LeafElement)) → page_size ≤ largest_page
    → AllByRecursion (IsItem page_size) items
    → (height : ℕ) × ((root_over which page_size items).numbers ≤ limit → height ≤ 63) × IsOver page_size height (root_over which page_size items) items
root_stands which page_size items small all = grind (arith, all_weaker, root_is_over)

pub root_page : (which : Layout) (page_size : ℕ) (items : List (Laid LeafElement)) → 0 < page_size → page_size ≤ largest_page
    → AllByRecursion (IsItem page_size) items → ItemsRise items
    → (height : ℕ) × ((root_over which page_size items).numbers ≤ limit → height ≤ 63) × IsPage page_size height (root_over which page_size items) items
root_page which page_size items sized small all rise =
    let (height, low, over) = root_stands which page_size items small all in
    (height, low, over_page page_size sized height (root_over which page_size items) items over all rise)

spot_of_root : (host root : ℕ) (e : LeafElement) → e.is_bucket ≡ true → head_root e.value ≡ root → 1 ≤ root
    → bucket_spots host (leaf_entry e) ≡ Some (At_page (root_spot (head_root e.value)))
spot_of_root host root e bucket same some =
    let z : (head_root e.value == 0) ≡ false = ne_eqb (head_root e.value) 0 (λ zero_root. omega arith) in rw (bucket, z) refl

root_item : (which : Layout) (page_size : ℕ) (key : List ℕ) (sequence : ℕ) (items : List (Laid LeafElement)) → 0 < page_size
    → page_size ≤ largest_page → 1 ≤ length key → length key ≤ 0x40000000 → sequence < 256 ^ 8
    → AllByRecursion (IsItem page_size) items → ItemsRise items → IsItem page_size (bucket_item key sequence (root_over which page_size items))
root_item which page_size key sequence items sized small some short narrow all rise =
    let root = root_over which page_size items in
    let (height, low, page) = root_page which page_size items sized small all rise in
    let item = bucket_item key sequence root in
    let value : ℕ → List ℕ = λ n. head_bytes (root.element n).child sequence in
    let head : (n : ℕ) → (root.element n).child < 256 ^ 8 → (head_root (value n) ≡ (root.element n).child) =
    λ n h. (head_written (value n) [] (root.element n).child sequence (sym (append-nil (value n))) h narrow).root in
    record {
      pages = record {
        row = page.pages.row;
        room = page.pages.room;
        fits = page.pages.fits;
      };
      some = some;
      short = short;
      most = omega arith;
      key = λ n. refl;
      size = λ n. (let l = length-head_bytes (root.element n).child sequence in omega arith);
      fit = λ n any h.
          let l = length-head_bytes (root.element n).child sequence in
          record {
            some = some;
            key = short;
            value = omega arith;
            bucket = λ e. root_passes (root.element n).child sequence (omega arith) (omega arith) narrow;
          };
      part = λ nodes n host any h shown.
          let same = head n (omega arith) in
          let e : LeafElement = item.element n in
          subst (λ (o : Option Spot). IsPart nodes (follow nodes o) n (n + root.numbers))
          (sym (spot_of_root host (root.element n).child e refl same (omega arith)))
          (page.part nodes n (root_spot (head_root e.value)) same any h shown (let deep = low (omega arith) in omega arith) (within_none items));
    }

-- the items of a tree
stored_key : (which : Layout) (page_size : ℕ) (key : List ℕ) (sequence : ℕ) (inside : Tree) (items : List (Laid LeafElement)) (b : Bool)
    → is_inline page_size inside items ≡ b
    → (stored_bucket which page_size key sequence inside items).key ≡ key
stored_key which page_size key sequence inside items b e = grind arith

keys_below : (which : Layout) (page_size : ℕ) (key : Key) (tree : Tree) → IsBelow key_cmp key (keys_in tree) → (x : Laid LeafElement) → x.key ≡ key
    → AllByRecursion (IsBelowItem x) (items_of which page_size tree)
keys_below which page_size key end below x same = tt
keys_below which page_size key (with_value other value after) below x same =
    grind (
      arith,
      common_steps,
      contains_head,
      contains_tail,
      keys_below which page_size key after (λ k has. below k (contains_tail other k (keys_in after) has)) x same,
    )
keys_below which page_size key (with_bucket other sequence inside after) below x same =
    grind (
      arith,
      common_steps,
      contains_head,
      contains_tail,
      keys_below which page_size key after (λ k has. below k (contains_tail other k (keys_in after) has)) x same,
    )

pub tree_rise : (which : Layout) (page_size : ℕ) (tree : Tree) → Rises key_cmp (keys_in tree) → ItemsRise (items_of which page_size tree)
tree_rise which page_size end h = tt
tree_rise which page_size (with_value key value after) h =
    (keys_below which page_size key after h.0 (leaf_item key value false) refl, tree_rise which page_size after h.1)
tree_rise which page_size (with_bucket key sequence inside after) h =
    let items = items_of which page_size inside in
    let named = stored_key which page_size key sequence inside items (is_inline page_size inside items) refl in
    (keys_below which page_size key after h.0 (stored_bucket which page_size key sequence inside items) named, tree_rise which page_size after h.1)

stored_item : (which : Layout) (page_size : ℕ) (key : List ℕ) (sequence : ℕ) (inside : Tree) → 0 < page_size → page_size ≤ largest_page
    → 1 ≤ length key → length key ≤ 0x40000000 → sequence < 256 ^ 8
    → HasLengths inside → AllByRecursion (IsItem page_size) (items_of which page_size inside) → ItemsRise (items_of which page_size inside) → (b : Bool)
    → is_inline page_size inside (items_of which page_size inside) ≡ b
    → IsItem page_size (stored_bucket which page_size key sequence inside (items_of which page_size inside))
stored_item which page_size key sequence inside sized small some short narrow lengths all rise true e =
    rw e (inline_item which page_size key sequence inside small some short narrow lengths all rise e)
stored_item which page_size key sequence inside sized small some short narrow lengths all rise false e =
    rw e (root_item which page_size key sequence (items_of which page_size inside) sized small some short narrow all rise)

pub tree_items : (which : Layout) (page_size : ℕ) → 0 < page_size → page_size ≤ largest_page → (tree : Tree) → HasLengths tree → RisesInside tree
    → AllByRecursion (IsItem page_size) (items_of which page_size tree)
tree_items which page_size sized small end lengths rises = tt
tree_items which page_size sized small (with_value key value after) lengths rises =
    (value_item page_size key value lengths.0.0 lengths.0.1 lengths.1, tree_items which page_size sized small after lengths.2 rises)
tree_items which page_size sized small (with_bucket key sequence inside after) lengths rises =
    let items = items_of which page_size inside in
    let all = tree_items which page_size sized small inside lengths.2 rises.1 in
    let rise = tree_rise which page_size inside rises.0 in (
      stored_item which page_size key sequence inside sized small lengths.0.0 lengths.0.1 lengths.1 lengths.2 all rise (is_inline page_size inside items) refl,
      tree_items which page_size sized small after lengths.3 rises.2,
    )
