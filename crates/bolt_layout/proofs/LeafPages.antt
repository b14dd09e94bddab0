-- What holds of the page over a row of leaf items, where it holds of the items; and a leaf page over them.
use Rattle.std.proofs.Common.{◌≡◌, ◌∙◌, ℕ, suc, ◌+◌, ◌<◌, ◌≤◌, nat_lt, Bool, true, false, List, [], ◌∷◌, ◌++◌, length, map, Option, Some, None, Ok}
use Rattle.std.proofs.Common.{slice_get, refl, sym, ap, subst, arith}
use Rattle.bolt_lemmas.proofs.Exports.{all_split, all_weaker}
use Rattle.bolt_layout.proofs.Words.{AllByRecursion, At_page, BranchElement, bucket_spots, elements_of, Entry, finding_of, follow, follow_none, Key}
use Rattle.bolt_layout.proofs.Words.{key_lt, keys_of, keys_order_fault, Laid, le-ltb, leaf_entry, leaf_page_view, LeafElement, Node, node_finding}
use Rattle.bolt_layout.proofs.Words.{node_of, Nodes, numbers_of, page_over, pages_of, PageSpot, Placed, places, run_overflow, Spot}
use Rattle.bolt_layout.proofs.{KeyLaws.IsAbove, KeyLaws.IsBelowItem, KeyLaws.IsWithin, KeyLaws.ItemsRise, KeyLaws.key_step}
use Rattle.bolt_layout.proofs.OverRows.{IsRun}
use Rattle.bolt_layout.proofs.Parts.{IsFinePage, IsPart, kids_at, more_kids, no_kids, part_page}
use Rattle.bolt_layout.proofs.{LaidPages.AreNodes, LaidPages.HasPages, LaidPages.limit, LaidPages.page_has, LaidItems.IsItem, LaidItems.leaf_own}
use Rattle.bolt_layout.proofs.{LaidItems.leaf_own_room}
use Rattle.bolt_check.specs.Ways.{step_entry}
use Rattle.bolt_layout.specs.Laid.{first_key}

-- What holds of the page over a row.
pub record IsPage (page_size height : ℕ) (page : Laid BranchElement) (leaves : List (Laid LeafElement)) : Type 0 where
  pub pages : HasPages page_size page
  pub some : 1 ≤ page.numbers
  pub size : page.size ≡ 16 + length page.key
  pub first : (x : Laid LeafElement) (rest : List (Laid LeafElement)) → leaves ≡ x ∷ rest → page.key ≡ x.key
  pub key : (n : ℕ) → (page.element n).key ≡ page.key
  pub child : (n : ℕ) → (n ≤ (page.element n).child) × ((page.element n).child < n + page.numbers)
  pub last : (n : ℕ) → (front : List Placed) × (own : Placed) × (page.pages n ≡ front ++ own ∷ []) × (own.number ≡ (page.element n).child)
  pub part : (nodes : Nodes) (n : ℕ) (s : PageSpot) → s.number ≡ (page.element n).child → 1 ≤ n → n + page.numbers ≤ limit
      → AreNodes nodes (page.pages n)
      → s.depth + height ≤ 64 → AllByRecursion (IsWithin s.lower s.upper) leaves → IsPart nodes (follow nodes (Some (At_page s))) n (n + page.numbers)

-- what the entries of a page lead to
places_follow : (nodes : Nodes) (is_leaf : Bool) (s : PageSpot) (entries : List Entry) (j : ℕ) (way : List ℕ)
    → kids_at nodes (places is_leaf s entries) (j ∷ way) ≡ follow nodes (step_entry is_leaf s (slice_get entries j) (slice_get entries (suc j))) way
places_follow nodes is_leaf s (e ∷ entries) (suc j) way = places_follow nodes is_leaf s entries j way
places_follow nodes is_leaf s entries j way = grind (arith, follow_none)

-- a page over its entries' parts
pub page_part : (nodes : Nodes) (s : PageSpot) (node : Node) (from number : ℕ) → s.number ≡ number → nodes number ≡ Ok node → s.depth ≤ 64
    → node_finding node s ≡ None
    → IsPart nodes (kids_at nodes (places node.is_leaf s node.entries)) from number → (to : ℕ) → number + (1 + node.overflow) ≡ to
    → IsPart nodes (follow nodes (Some (At_page s))) from to
page_part nodes s node from number same page depth content parts to end =
    let here : nodes s.number ≡ Ok node = ap nodes same ∙ page in
    let deep : nat_lt 64 s.depth ≡ false = le-ltb 64 s.depth depth in
    let fine : IsFinePage nodes s = record { node = node; early = rw (deep, here) refl; page = here; content = content } in
    let kids : List (Option Spot) = places node.is_leaf s node.entries in
    let last : s.number + (1 + node.overflow) ≡ to = ap (λ (m : ℕ). m + (1 + node.overflow)) same ∙ end in
    subst (IsPart nodes (follow nodes (Some (At_page s))) from) last
    (part_page nodes s kids from fine (λ j way. rw here (places_follow nodes node.is_leaf s node.entries j way))
    (subst (IsPart nodes (kids_at nodes kids) from) (sym same) parts))

-- A leaf.
pub items_parts : (page_size : ℕ) (items : List (Laid LeafElement)) → AllByRecursion (IsItem page_size) items
    → (nodes : Nodes) (s : PageSpot) (n to : ℕ) → 1 ≤ n → to ≡ n + numbers_of items
    → to ≤ limit → AreNodes nodes (pages_of items n) → IsPart nodes (kids_at nodes (places true s (map leaf_entry (elements_of items n)))) n to
items_parts page_size [] all nodes s n to some end h shown = no_kids nodes n to (omega arith)
items_parts page_size (item ∷ items) all nodes s n to some end h shown =
    let both = all_split (λ (p : Placed). nodes p.number ≡ node_of p.view.kind p.view) (item.pages n) (pages_of items (n + item.numbers)) shown in
    more_kids nodes (bucket_spots s.number (leaf_entry (item.element n))) (places true s (map leaf_entry (elements_of items (n + item.numbers)))) n
    (n + item.numbers) to
    (all.0.part nodes n s.number some (omega arith) both.0)
    (items_parts page_size items all.1 nodes s (n + item.numbers) to (omega arith) (omega arith) h both.1)

pub above_after : (x : Laid LeafElement) (key : Key) (items : List (Laid LeafElement)) → key ≡ x.key → AllByRecursion (IsBelowItem x) items
    → AllByRecursion (IsAbove (Some key)) items
above_after x key items same h = all_weaker (IsBelowItem x) (IsAbove (Some key)) (λ y less. ap (λ (k : Key). key_lt k y.key) same ∙ less) items h

pub items_keys : (page_size : ℕ) (items : List (Laid LeafElement)) → AllByRecursion (IsItem page_size) items
    → (before lower upper : Option Key) (n : ℕ) → ItemsRise items
    → AllByRecursion (IsAbove before) items → AllByRecursion (IsWithin lower upper) items
    → keys_order_fault before lower upper (keys_of (map leaf_entry (elements_of items n))) ≡ None
items_keys page_size [] all before lower upper n rise above within = refl
items_keys page_size (item ∷ items) all before lower upper n rise above within =
    let key : Key = (item.element n).key in
    let same : key ≡ item.key = all.0.key n in
    let rest = items_keys page_size items all.1 (Some key) lower upper (n + item.numbers) rise.1 (above_after item key items same rise.0) within.1 in
    grind (arith, key_step)

pub above_none : (items : List (Laid LeafElement)) → AllByRecursion (IsAbove None) items
above_none [] = tt
above_none (item ∷ items) = (refl, above_none items)

pub items_have : (page_size : ℕ) (items : List (Laid LeafElement)) → AllByRecursion (IsItem page_size) items
    → AllByRecursion (HasPages page_size) items
items_have page_size items = all_weaker (IsItem page_size) (HasPages page_size) (λ item i. i.pages) items

pub leaf_page : (page_size : ℕ) (leaves : List (Laid LeafElement)) → 0 < page_size → AllByRecursion (IsItem page_size) leaves → ItemsRise leaves
    → IsRun leaves
    → IsPage page_size 0 (page_over leaf_page_view page_size leaves) leaves
leaf_page page_size leaves sized all rise fits = record {
  pages = page_has page_size leaf_page_view leaves (items_have page_size leaves all) (λ further es. refl) (leaf_own_room page_size leaves sized all)
      (leaf_own page_size leaves sized all fits);
  some = omega arith;
  size = refl;
  first = λ x rest e. ap (λ (r : List (Laid LeafElement)). first_key r) e;
  key = λ n. refl;
  child = λ n. (omega arith, omega arith);
  last =
      λ n. (
        pages_of leaves n,
        record { number = n + numbers_of leaves; view = leaf_page_view (run_overflow page_size leaves) (elements_of leaves n) },
        refl,
        refl,
      );
  part = λ nodes n s same some h shown depth within.
      let both = all_split (λ (p : Placed). nodes p.number ≡ node_of p.view.kind p.view) (pages_of leaves n) _ shown in
      let node : Node = record { is_leaf = true; overflow = run_overflow page_size leaves; entries = map leaf_entry (elements_of leaves n) } in
      let keys = items_keys page_size leaves all None s.lower s.upper n rise (above_none leaves) within in
      page_part nodes s node n (n + numbers_of leaves) same both.1.0 (omega arith) (ap (λ (o : Option ℕ). finding_of o s.number) keys)
      (items_parts page_size leaves all nodes s n (n + numbers_of leaves) some refl (omega arith) both.0) _ (omega arith);
}
