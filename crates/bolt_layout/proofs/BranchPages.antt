-- A branch page over pages, and by the height the page over a row of items.
use Rattle.std.proofs.lemmas.Grind.{common_steps}
use Rattle.bolt_lemmas.proofs.Exports.{all_split, all_weaker}
use Rattle.bolt_check.proofs.Exports.{lt_strict}
use Rattle.std.proofs.Common.{◌≡◌, ◌∙◌, ℕ, zero, suc, ◌+◌, ◌*◌, ◌<◌, ◌≤◌, ◌==◌, true, false, List, [], ◌∷◌, ◌++◌, length, map, Option, Some, None}
use Rattle.std.proofs.Common.{slice_get, refl, sym, ap, subst, arith, sum_by}
use Rattle.bolt_layout.proofs.Words.{AllByRecursion, At_page, branch_data, branch_page_view, BranchElement, elements_of, Entry, is_below, is_from}
use Rattle.bolt_layout.proofs.Words.{Key, keys_of, keys_order_fault, Laid, LeafElement, length-append, ne_eqb, Node, node_finding, node_of, Nodes}
use Rattle.bolt_layout.proofs.Words.{numbers_of, page_over, pages_of, PageSpot, Placed, places, run_overflow, size_of, sum_by-cons, cases_Bool}
use Rattle.bolt_layout.proofs.{BranchLemmas.IsBranchFit, KeyLaws.AreBelow, KeyLaws.IsAbove, KeyLaws.IsBelowItem, KeyLaws.IsWithin, KeyLaws.ItemsRise}
use Rattle.bolt_layout.proofs.{KeyLaws.key_step, KeyLaws.rise_split}
use Rattle.bolt_layout.proofs.{OverRows.IsOver, OverRows.IsRun, OverRows.Pieces, Parts.IsPart}
use Rattle.bolt_layout.proofs.{Parts.kids_at, Parts.more_kids, Parts.no_kids}
use Rattle.bolt_layout.proofs.PageRows.{HasRoom, IsPageFit, branch_room, overflow_room, overflow_small}
use Rattle.bolt_layout.proofs.{LaidPages.AreNodes, LaidPages.HasPages, LaidPages.limit, LaidPages.own_page, LaidPages.page_has, LaidItems.IsItem}
use Rattle.bolt_layout.proofs.{LaidItems.length-elements}
use Rattle.bolt_layout.proofs.LeafPages.{IsPage, above_after, above_none, leaf_page, page_part}
use Rattle.bolt_check.specs.{Nodes.branch_entry, Ways.child_spot, Ways.upper_from}

-- A branch.
pub pieces_have : (page_size height : ℕ) (kids : List (Laid BranchElement)) (leaves : List (Laid LeafElement))
    → Pieces (IsPage page_size height) kids leaves → AllByRecursion (HasPages page_size) kids
pieces_have page_size height [] leaves h = tt
pieces_have page_size height (kid ∷ kids) leaves h = let (x, front, back, e, page, more) = h in (page.pages, pieces_have page_size height kids back more)

pub pieces_size : (page_size height : ℕ) (kids : List (Laid BranchElement)) (leaves : List (Laid LeafElement))
    → Pieces (IsPage page_size height) kids leaves → (n : ℕ)
    → sum_by size_of kids ≡ 16 * length (elements_of kids n) + length (branch_data (elements_of kids n))
pieces_size page_size height [] leaves h n = refl
pieces_size page_size height (kid ∷ kids) leaves h n =
    let (x, front, back, e, page, more) = h in
    let ih = pieces_size page_size height kids back more (n + kid.numbers) in
    grind (arith, common_steps, sum_by-cons, length-append)

pub pieces_fit : (page_size height : ℕ) (kids : List (Laid BranchElement)) (leaves : List (Laid LeafElement))
    → Pieces (IsPage page_size height) kids leaves
    → AllByRecursion (IsItem page_size) leaves → (n : ℕ) → n + numbers_of kids ≤ limit → AllByRecursion IsBranchFit (elements_of kids n)
pieces_fit page_size height [] leaves h all n room = tt
pieces_fit page_size height (kid ∷ kids) leaves h all n room =
    let (x, front, back, e, page, more) = h in
    let all2 : AllByRecursion (IsItem page_size) (x ∷ (front ++ back)) = subst (AllByRecursion (IsItem page_size)) e all in
    grind (arith, all_split, pieces_fit page_size height kids back more (all_split (IsItem page_size) front back all2.1).1 (n + kid.numbers) (omega arith))

branch_own_room : (page_size height : ℕ) (run : List (Laid BranchElement)) (leaves : List (Laid LeafElement)) → 0 < page_size
    → Pieces (IsPage page_size height) run leaves
    → (n : ℕ) → HasRoom page_size (own_page branch_page_view page_size run n)
branch_own_room page_size height run leaves sized pieces n = grind (arith, pieces_size, overflow_room, branch_room)

pub branch_own : (page_size height : ℕ) (run : List (Laid BranchElement)) (leaves : List (Laid LeafElement)) → 0 < page_size
    → Pieces (IsPage page_size height) run leaves
    → AllByRecursion (IsItem page_size) leaves → IsRun run → (n : ℕ) → 1 ≤ n → n + numbers_of run < limit
    → IsPageFit page_size (own_page branch_page_view page_size run n)
branch_own page_size height run leaves sized pieces all fits n some h = grind (arith, pieces_size, length-elements, overflow_room, overflow_small, pieces_fit)

-- the upper bound of a child is above all keys below it
pub upper_holds : (page_size height : ℕ) (kids : List (Laid BranchElement)) (back ys : List (Laid LeafElement)) (upper : Option Key) (m : ℕ)
    → Pieces (IsPage page_size height) kids back
    → AreBelow ys back → AllByRecursion (λ (y : Laid LeafElement). is_below upper y.key ≡ true) ys
    → AllByRecursion (λ (y : Laid LeafElement). is_below (upper_from (slice_get (map branch_entry (elements_of kids m)) 0) upper) y.key ≡ true) ys
upper_holds page_size height [] back ys upper m pieces below within = within
upper_holds page_size height (kid ∷ kids) back ys upper m pieces below within = grind (arith, all_weaker)

pub lower_holds : (x : Laid LeafElement) (key : Key) (ys : List (Laid LeafElement)) → key ≡ x.key → AllByRecursion (IsBelowItem x) ys
    → AllByRecursion (λ (y : Laid LeafElement). is_from (Some key) y.key ≡ true) (x ∷ ys)
lower_holds x key ys same h = grind (arith, all_weaker, cases_Bool, lt_strict)

pub both_hold : (lower upper : Option Key) (ys : List (Laid LeafElement)) → AllByRecursion (λ (y : Laid LeafElement). is_from lower y.key ≡ true) ys
    → AllByRecursion (λ (y : Laid LeafElement). is_below upper y.key ≡ true) ys → AllByRecursion (IsWithin lower upper) ys
both_hold lower upper [] a b = tt
both_hold lower upper (y ∷ ys) a b = ((a.0, b.0), both_hold lower upper ys a.1 b.1)

pub kids_parts : (page_size height : ℕ) (kids : List (Laid BranchElement)) (leaves : List (Laid LeafElement))
    → Pieces (IsPage page_size height) kids leaves → ItemsRise leaves
    → (nodes : Nodes) (s : PageSpot) (n to : ℕ) → AllByRecursion (IsWithin s.lower s.upper) leaves → suc s.depth + height ≤ 64 → 1 ≤ n
    → to ≡ n + numbers_of kids → to ≤ limit
    → AreNodes nodes (pages_of kids n) → IsPart nodes (kids_at nodes (places false s (map branch_entry (elements_of kids n)))) n to
kids_parts page_size height [] leaves pieces rise nodes s n to within depth some end h shown = no_kids nodes n to (omega arith)
kids_parts page_size height (kid ∷ kids) leaves pieces rise nodes s n to within depth some end h shown =
    let (x, front, back, e, page, more) = pieces in
    let both = all_split (λ (p : Placed). nodes p.number ≡ node_of p.view.kind p.view) (kid.pages n) (pages_of kids (n + kid.numbers)) shown in
    let rise2 = rise_split (x ∷ front) back (subst ItemsRise e rise) in
    let within2 = all_split (IsWithin s.lower s.upper) (x ∷ front) back (subst (AllByRecursion (IsWithin s.lower s.upper)) e within) in
    let entry : Entry = branch_entry (kid.element n) in
    let upper : Option Key = upper_from (slice_get (map branch_entry (elements_of kids (n + kid.numbers))) 0) s.upper in
    let same : entry.key ≡ x.key = page.key n ∙ page.first x front refl in
    let low = lower_holds x entry.key front same rise2.0.0 in
    let mine = all_weaker (IsWithin s.lower s.upper) (λ (y : Laid LeafElement). is_below s.upper y.key ≡ true) (λ y w. w.1) (x ∷ front) within2.0 in
    let high = upper_holds page_size height kids back (x ∷ front) s.upper (n + kid.numbers) more rise2.2 mine in
    let first =
    page.part nodes n (child_spot s entry upper) refl some (omega arith) both.0 (omega arith) (both_hold (Some entry.key) upper (x ∷ front) low high) in
    more_kids nodes (Some (At_page (child_spot s entry upper))) (places false s (map branch_entry (elements_of kids (n + kid.numbers)))) n
    (n + kid.numbers) to first
    (kids_parts page_size height kids back more rise2.1 nodes s (n + kid.numbers) to within2.1 depth (omega arith) (omega arith) h both.1)

pub kids_keys : (page_size height : ℕ) (kids : List (Laid BranchElement)) (leaves : List (Laid LeafElement))
    → Pieces (IsPage page_size height) kids leaves → ItemsRise leaves
    → (before lower upper : Option Key) (n : ℕ) → AllByRecursion (IsAbove before) leaves → AllByRecursion (IsWithin lower upper) leaves
    → keys_order_fault before lower upper (keys_of (map branch_entry (elements_of kids n))) ≡ None
kids_keys page_size height [] leaves pieces rise before lower upper n above within = refl
kids_keys page_size height (kid ∷ kids) leaves pieces rise before lower upper n above within =
    let (x, front, back, e, page, more) = pieces in
    let key : Key = (kid.element n).key in
    let same : key ≡ x.key = page.key n ∙ page.first x front refl in
    let rise2 = rise_split (x ∷ front) back (subst ItemsRise e rise) in
    let within2 = all_split (IsWithin lower upper) (x ∷ front) back (subst (AllByRecursion (IsWithin lower upper)) e within) in
    let rest = kids_keys page_size height kids back more rise2.1 (Some key) lower upper (n + kid.numbers) (above_after x key back same rise2.2.0) within2.1 in
    grind (arith, key_step)

pub branch_content : (node : Node) (s : PageSpot) → node.is_leaf ≡ false → 1 ≤ length node.entries
    → keys_order_fault None s.lower s.upper (keys_of node.entries) ≡ None → node_finding node s ≡ None
branch_content node s leaf some keys = let z : (length node.entries == 0) ≡ false = ne_eqb (length node.entries) 0 (λ e. omega arith) in rw (leaf, z, keys) refl

pub branch_page : (page_size height : ℕ) (kid : Laid BranchElement) (kids : List (Laid BranchElement)) (leaves : List (Laid LeafElement))
    → 0 < page_size
    → Pieces (IsPage page_size height) (kid ∷ kids) leaves → AllByRecursion (IsItem page_size) leaves → ItemsRise leaves → IsRun (kid ∷ kids)
    → IsPage page_size (suc height) (page_over branch_page_view page_size (kid ∷ kids)) leaves
branch_page page_size height kid kids leaves sized pieces all rise fits = record {
  pages =
      page_has page_size branch_page_view (kid ∷ kids) (pieces_have page_size height (kid ∷ kids) leaves pieces) (λ further es. refl)
      (branch_own_room page_size height (kid ∷ kids) leaves sized pieces)
      (branch_own page_size height (kid ∷ kids) leaves sized pieces all fits);
  some = omega arith;
  size = refl;
  first = λ x rest e.
      let (y, front, back, e2, page, more) = pieces in
      let same : y ≡ x = cc in page.first y front refl ∙ ap (λ (i : Laid LeafElement). i.key) same;
  key = λ n. refl;
  child = λ n. (omega arith, omega arith);
  last =
      λ n. (
        pages_of (kid ∷ kids) n,
        record { number = n + numbers_of (kid ∷ kids); view = branch_page_view (run_overflow page_size (kid ∷ kids)) (elements_of (kid ∷ kids) n) },
        refl,
        refl,
      );
  part = λ nodes n s same some h shown depth within.
      let both = all_split (λ (p : Placed). nodes p.number ≡ node_of p.view.kind p.view) (pages_of (kid ∷ kids) n) _ shown in
      let node : Node = record { is_leaf = false; overflow = run_overflow page_size (kid ∷ kids); entries = map branch_entry (elements_of (kid ∷ kids) n) } in
      let keys = kids_keys page_size height (kid ∷ kids) leaves pieces rise None s.lower s.upper n (above_none leaves) within in
      page_part nodes s node n (n + numbers_of (kid ∷ kids)) same both.1.0 (omega arith) (branch_content node s refl (omega arith) keys)
      (kids_parts page_size height (kid ∷ kids) leaves pieces rise nodes s n (n + numbers_of (kid ∷ kids)) within (omega arith) some refl (omega arith)
      both.0) _ (omega arith);
}

-- by the height
pub over_pieces : (page_size height : ℕ)
    → ((page : Laid BranchElement) (leaves : List (Laid LeafElement)) → IsOver page_size height page leaves → AllByRecursion (IsItem page_size) leaves
    → ItemsRise leaves → IsPage page_size height page leaves)
    → (pages : List (Laid BranchElement)) (leaves : List (Laid LeafElement)) → Pieces (IsOver page_size height) pages leaves
    → AllByRecursion (IsItem page_size) leaves → ItemsRise leaves
    → Pieces (IsPage page_size height) pages leaves
over_pieces page_size height ih [] leaves h all rise = h
over_pieces page_size height ih (page ∷ pages) leaves h all rise =
    let (x, front, back, e, o, more) = h in
    let all2 = all_split (IsItem page_size) (x ∷ front) back (subst (AllByRecursion (IsItem page_size)) e all) in
    let rise2 = rise_split (x ∷ front) back (subst ItemsRise e rise) in
    (x, front, back, e, ih page (x ∷ front) o all2.0 rise2.0, over_pieces page_size height ih pages back more all2.1 rise2.1)

pub over_page : (page_size : ℕ) → 0 < page_size → (height : ℕ) (page : Laid BranchElement) (leaves : List (Laid LeafElement))
    → IsOver page_size height page leaves
    → AllByRecursion (IsItem page_size) leaves → ItemsRise leaves → IsPage page_size height page leaves
over_page page_size sized zero page leaves o all rise =
    let (e, fits) = o in subst (λ (p : Laid BranchElement). IsPage page_size 0 p leaves) (sym e) (leaf_page page_size leaves sized all rise fits)
over_page page_size sized (suc height) page leaves o all rise =
    let (kid, kids, e, fits, pieces) = o in
    subst (λ (p : Laid BranchElement). IsPage page_size (suc height) p leaves) (sym e)
    (branch_page page_size height kid kids leaves sized
    (over_pieces page_size height (over_page page_size sized height) (kid ∷ kids) leaves pieces all rise) all rise fits)
