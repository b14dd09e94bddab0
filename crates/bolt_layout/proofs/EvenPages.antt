-- The pages of a layout are as bbolt writes them: the leaves of a bucket are at one depth, each page below a branch begins with the key of its
-- entry, and no inline page has a number.
use Rattle.std.proofs.Common.{◌≡◌, ◌≢◌, ◌==◌, ℕ, zero, suc, ◌+◌, ◌≤◌, true, false, List, [], ◌∷◌, None, Ok, ap, map, not, refl, subst, arith}
use Rattle.std.proofs.lemmas.Slice.Eq.{bytes_eq-Decides}
use Rattle.bolt_lemmas.proofs.Exports.{all_append, all_split}
use Rattle.bolt_layout.proofs.Words.{AllByRecursion, branch_page_view, BranchElement, elements_of, Entry, head_root, Key, keys_of, Laid, leaf_entry}
use Rattle.bolt_layout.proofs.Words.{leaf_page_view, LeafElement, Node, node_of, Nodes, numbers_of, page_over, pages_of, Placed}
use Rattle.bolt_layout.proofs.{LaidPages.AreNodes, LaidPages.limit, OverRows.IsOver, OverRows.Pieces}
use Rattle.bolt_check.specs.{BboltFindings.above_first, BboltFindings.begins_otherwise, BboltFindings.first_child, BboltFindings.first_leaf_depth}
use Rattle.bolt_check.specs.{Nodes.branch_entry}
use Rattle.bolt_format.specs.{Elements.inline_number, Gaps.inline_gap, declared.header.Kind.TheVariants.Branch, declared.header.Kind.TheVariants.Leaf}

-- page n begins with this key
abbrev pub BeginsWith : Nodes → (n : ℕ) → Key → Type 0
BeginsWith nodes n key = (node : Node) × (nodes n ≡ Ok node) × (begins_otherwise key (keys_of node.entries) ≡ false)

-- each leaf below page n is so many pages below it, and each page below it begins with the key of its entry
abbrev pub IsEven : Nodes → (height : ℕ) → (n : ℕ) → Type 0
IsEven nodes zero n = (node : Node) × (nodes n ≡ Ok node) × (node.is_leaf ≡ true)
IsEven nodes (suc height) n = (node : Node) × (nodes n ≡ Ok node) × (node.is_leaf ≡ false) × (node.entries ≢ [])
    × AllByRecursion (λ (e : Entry). IsEven nodes height e.child × BeginsWith nodes e.child e.key) node.entries

abbrev pub IsEvenKid : Nodes → (height : ℕ) → Entry → Type 0
IsEvenKid nodes height e = IsEven nodes height e.child × BeginsWith nodes e.child e.key

-- a bucket that is inline has no page number and no gap, and one that isn't has even pages
abbrev pub IsNeatElement : Nodes → LeafElement → Type 0
IsNeatElement nodes e = e.is_bucket ≡ true
    → ((head_root e.value == 0) ≡ true → (inline_number e.value ≡ 0) × (inline_gap e.value ≡ None))
    × ((head_root e.value == 0) ≡ false → (height : ℕ) × (height ≤ 63) × IsEven nodes height (head_root e.value))

-- and so are all buckets on a leaf
abbrev pub IsNeat : Nodes → Placed → Type 0
IsNeat nodes p = p.view.kind ≡ Leaf → AllByRecursion (IsNeatElement nodes) p.view.leaves

-- what holds of an item, from any number on: of its element, and of the pages below it
pub record IsNeatItem (item : Laid LeafElement) : Type 0 where
  pub key : (n : ℕ) → (item.element n).key ≡ item.key
  pub own : (nodes : Nodes) (n : ℕ) → 1 ≤ n → n + item.numbers ≤ limit → AreNodes nodes (item.pages n) → IsNeatElement nodes (item.element n)
  pub below : (nodes : Nodes) (n : ℕ) → 1 ≤ n → n + item.numbers ≤ limit → AreNodes nodes (item.pages n)
      → AllByRecursion (IsNeat nodes) (item.pages n)

-- the first leaf is at the depth of all
pub even_depth : (nodes : Nodes) (height n branches : ℕ) → IsEven nodes height n → height ≤ branches → first_leaf_depth nodes branches n ≡ suc height
unfolding first_leaf_depth
even_depth nodes zero n zero even h = refl
even_depth nodes zero n (suc branches) (node, at, leaf) h = rw (at, leaf) refl
even_depth nodes (suc height) n zero even h = absurd (omega arith)
even_depth nodes (suc height) n (suc branches) (node, at, branch, some, kids) h =
    rw (at, branch) (by node.entries some kids (λ m even. even_depth nodes height m branches even (omega arith)))
  where
    by : (entries : List Entry) → entries ≢ [] → AllByRecursion (IsEvenKid nodes height) entries
        → ((m : ℕ) → IsEven nodes height m → first_leaf_depth nodes branches m ≡ suc height)
        → above_first (first_leaf_depth nodes branches) (first_child entries) ≡ suc (suc height)
    by [] any all ih = absurd (any refl)
    by (e ∷ entries) any all ih = ap suc (ih e.child all.0.0)

same_key : (key first : Key) (keys : List Key) → first ≡ key → begins_otherwise key (first ∷ keys) ≡ false
same_key key first keys same = ap not ((bytes_eq-Decides first key).1 same)

-- ---- over rows

module _ (nodes : Nodes) (page_size : ℕ) where
  abbrev IsNode : Placed → Type 0
  IsNode p = nodes p.number ≡ node_of p.view.kind p.view

  -- a row of items
  items_neat : (items : List (Laid LeafElement)) → AllByRecursion IsNeatItem items → (n : ℕ) → 1 ≤ n → n + numbers_of items ≤ limit
      → AreNodes nodes (pages_of items n)
      → AllByRecursion (IsNeatElement nodes) (elements_of items n) × AllByRecursion (IsNeat nodes) (pages_of items n)
  items_neat [] all n some h shown = (tt, tt)
  items_neat (item ∷ items) all n some h shown =
      let both = all_split IsNode (item.pages n) (pages_of items (n + item.numbers)) shown in
      let rest = items_neat items all.1 (n + item.numbers) (omega arith) (omega arith) both.1 in (
        (all.0.own nodes n some (omega arith) both.0, rest.0),
        all_append (IsNeat nodes) (item.pages n) _ (all.0.below nodes n some (omega arith) both.0) rest.1,
      )

  -- what is to be shown of a page over a row
  abbrev IsEvenPage : (height : ℕ) → Laid BranchElement → Type 0
  IsEvenPage height page = (n : ℕ) → 1 ≤ n → n + page.numbers ≤ limit → AreNodes nodes (page.pages n)
      → IsEven nodes height (page.element n).child × AllByRecursion (IsNeat nodes) (page.pages n)

  abbrev BeginsSo : Laid BranchElement → Type 0
  BeginsSo page = (n : ℕ) → AreNodes nodes (page.pages n) → BeginsWith nodes (page.element n).child (page.element n).key

  leaf_even : (items : List (Laid LeafElement)) → AllByRecursion IsNeatItem items → IsEvenPage 0 (page_over leaf_page_view page_size items)
  leaf_even items all n some h shown =
      let both = all_split IsNode (pages_of items n) _ shown in
      let (elements, pages) = items_neat items all n some (omega arith) both.0 in
      ((_, both.1.0, refl), all_append (IsNeat nodes) (pages_of items n) _ pages (λ leaf. elements, tt))

  leaf_begins : (x : Laid LeafElement) (items : List (Laid LeafElement)) → IsNeatItem x → BeginsSo (page_over leaf_page_view page_size (x ∷ items))
  leaf_begins x items neat n shown =
      let both = all_split IsNode (pages_of (x ∷ items) n) _ shown in
      (_, both.1.0, same_key x.key (x.element n).key (keys_of (map leaf_entry (elements_of items (n + x.numbers)))) (neat.key n))

  -- the element of a page has the page's key
  over_key : (height : ℕ) (page : Laid BranchElement) (leaves : List (Laid LeafElement)) → IsOver page_size height page leaves → (n : ℕ)
      → (page.element n).key ≡ page.key
  over_key zero page leaves (is, run) n = rw is refl
  over_key (suc height) page leaves (first, kids, is, run, pieces) n = rw is refl

  branch_begins : (height : ℕ) (kid : Laid BranchElement) (kids : List (Laid BranchElement)) (leaves : List (Laid LeafElement))
      → IsOver page_size height kid leaves
      → BeginsSo (page_over branch_page_view page_size (kid ∷ kids))
  branch_begins height kid kids leaves over n shown =
      let both = all_split IsNode (pages_of (kid ∷ kids) n) _ shown in
      (_, both.1.0, same_key kid.key (kid.element n).key (keys_of (map branch_entry (elements_of kids (n + kid.numbers)))) (over_key height kid leaves over n))

  over_begins : (height : ℕ) (page : Laid BranchElement) (x : Laid LeafElement) (leaves : List (Laid LeafElement))
      → IsOver page_size height page (x ∷ leaves) → IsNeatItem x
      → BeginsSo page
  over_begins zero page x leaves (is, run) neat = rw is (leaf_begins x leaves neat)
  over_begins (suc height) page x leaves (kid, kids, is, run, (first, front, back, e, over, more)) neat =
      rw is (branch_begins height kid kids (first ∷ front) over)

  -- pages over one piece of a row after another
  pieces_even : (height : ℕ)
      → ((page : Laid BranchElement) (leaves : List (Laid LeafElement)) → IsOver page_size height page leaves → AllByRecursion IsNeatItem leaves
      → IsEvenPage height page)
      → (pages : List (Laid BranchElement)) (leaves : List (Laid LeafElement)) → Pieces (IsOver page_size height) pages leaves
      → AllByRecursion IsNeatItem leaves
      → (n : ℕ) → 1 ≤ n → n + numbers_of pages ≤ limit → AreNodes nodes (pages_of pages n)
      → AllByRecursion (IsEvenKid nodes height) (map branch_entry (elements_of pages n)) × AllByRecursion (IsNeat nodes) (pages_of pages n)
  pieces_even height ih [] leaves pieces all n some h shown = (tt, tt)
  pieces_even height ih (page ∷ pages) leaves (first, front, back, e, over, more) all n some h shown =
      let both = all_split IsNode (page.pages n) (pages_of pages (n + page.numbers)) shown in
      let parts = all_split IsNeatItem (first ∷ front) back (subst (AllByRecursion IsNeatItem) e all) in
      let own = ih page (first ∷ front) over parts.0 n some (omega arith) both.0 in
      let rest = pieces_even height ih pages back more parts.1 (n + page.numbers) (omega arith) (omega arith) both.1 in (
        ((own.0, over_begins height page first front over parts.0.0 n both.0), rest.0),
        all_append (IsNeat nodes) (page.pages n) _ own.1 rest.1,
      )

  no_leaf : Branch ≡ Leaf → ⊥
  no_leaf e = cc

  some_entry : (e : Entry) (entries : List Entry) → (e ∷ entries) ≢ []
  some_entry e entries same = cc

  branch_even : (height : ℕ)
      → ((page : Laid BranchElement) (leaves : List (Laid LeafElement)) → IsOver page_size height page leaves → AllByRecursion IsNeatItem leaves
      → IsEvenPage height page)
      → (kid : Laid BranchElement) (kids : List (Laid BranchElement)) (leaves : List (Laid LeafElement))
      → Pieces (IsOver page_size height) (kid ∷ kids) leaves → AllByRecursion IsNeatItem leaves
      → IsEvenPage (suc height) (page_over branch_page_view page_size (kid ∷ kids))
  branch_even height ih kid kids leaves pieces all n some h shown =
      let both = all_split IsNode (pages_of (kid ∷ kids) n) _ shown in
      let (each, pages) = pieces_even height ih (kid ∷ kids) leaves pieces all n some (omega arith) both.0 in
      ((_, both.1.0, refl, some_entry _ _, each), all_append (IsNeat nodes) (pages_of (kid ∷ kids) n) _ pages (λ leaf. absurd (no_leaf leaf), tt))

  -- the page at the top
  pub over_even : (height : ℕ) (page : Laid BranchElement) (leaves : List (Laid LeafElement)) → IsOver page_size height page leaves
      → AllByRecursion IsNeatItem leaves
      → IsEvenPage height page
  over_even zero page leaves (is, run) all = rw is (leaf_even leaves all)
  over_even (suc height) page leaves (kid, kids, is, run, pieces) all = rw is (branch_even height (over_even height) kid kids leaves pieces all)
