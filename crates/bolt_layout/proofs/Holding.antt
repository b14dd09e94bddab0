-- The entries of a bucket whose pages were placed: the elements of its items, in order.
use Rattle.std.proofs.Common.{◌≡◌, ◌∙◌, ℕ, zero, suc, ◌+◌, ◌≤◌, List, [], ◌∷◌, ◌++◌, Option, Some, slice_get, refl, sym, subst, inl, inr, arith}
use Rattle.std.proofs.lemmas.List.Elements.{Contains-append_cases}
use Rattle.bolt_lemmas.proofs.Exports.{all_split}
use Rattle.bolt_layout.proofs.Words.{AllByRecursion, branch_page_view, BranchElement, Contains, Contains-append_left, Contains-append_right}
use Rattle.bolt_layout.proofs.Words.{elements_of, IsEntry, Laid, leaf_page_view, LeafElement, Meta, node_at, numbers_of, page_at, page_over, pages_of}
use Rattle.bolt_layout.proofs.Words.{PageView, Placed, Root_page, run_overflow}
use Rattle.bolt_format.specs.declared.header.Kind.TheVariants as kind
use Rattle.bolt_check.proofs.Exports.{branch_step, leads_child, leaf_ends, node_is}
use Rattle.bolt_layout.proofs.{LaidPages.limit, OverRows.IsOver, OverRows.Pieces}

module _ (file : List ℕ) (meta : Meta) where
  -- these pages are shown
  abbrev pub ArePages : List Placed → Type 0
  ArePages placed = AllByRecursion (λ (p : Placed). page_at file meta p.number ≡ Some p.view) placed

  -- elements of items, each from some page number on, where its pages are shown
  abbrev pub AreOf : List LeafElement → List (Laid LeafElement) → Type 0
  AreOf [] [] = Unit {0}
  AreOf [] (item ∷ items) = ⊥
  AreOf (e ∷ es) [] = ⊥
  AreOf (e ∷ es) (item ∷ items) = ((n : ℕ) × (1 ≤ n) × (n + item.numbers ≤ limit) × (e ≡ item.element n) × ArePages (item.pages n)) × AreOf es items

  are_append : (es fs : List LeafElement) (items others : List (Laid LeafElement)) → AreOf es items → AreOf fs others
      → AreOf (es ++ fs) (items ++ others)
  are_append (e ∷ es) fs (item ∷ items) others h k = (h.0, are_append es fs items others h.1 k)
  are_append es fs items others h k = grind arith

  -- all that stands below a page
  pub record Holds (here : ℕ) (items : List (Laid LeafElement)) : Type 0 where
    pub es : List LeafElement
    pub are : AreOf es items
    pub each : (e : LeafElement) → IsEntry file meta (Root_page here) e → Contains es e
    pub all : (e : LeafElement) → Contains es e → IsEntry file meta (Root_page here) e

  -- A leaf.
  items_are : (items : List (Laid LeafElement)) (n : ℕ) → 1 ≤ n → n + numbers_of items ≤ limit → ArePages (pages_of items n)
      → AreOf (elements_of items n) items
  items_are [] n some room shown = tt
  items_are (item ∷ items) n some room shown =
      let both = all_split (λ (p : Placed). page_at file meta p.number ≡ Some p.view) (item.pages n) (pages_of items (n + item.numbers)) shown in
      ((n, some, omega arith, refl, both.0), items_are items (n + item.numbers) (omega arith) (omega arith) both.1)

  leaf_entry : (number further : ℕ) (es : List LeafElement) → page_at file meta number ≡ Some (leaf_page_view further es) → (e : LeafElement)
      → IsEntry file meta (Root_page number) e → Contains es e
  leaf_entry number further es shown e ([], m, leading, (view, seen, is, has)) = grind arith
  leaf_entry number further es shown e (i ∷ address, m, leading, shows) =
      absurd (leaf_ends (node_at file meta) number i m (leaf_page_view further es) address
      (node_is file meta number (leaf_page_view further es) kind.Leaf shown refl) leading)

  -- A branch.
  abbrev IsBelowKid : List BranchElement → LeafElement → Type 0
  IsBelowKid elements e = (i : ℕ) × (kid : BranchElement) × (slice_get elements i ≡ Some kid) × IsEntry file meta (Root_page kid.child) e

  branch_below : (number further : ℕ) (elements : List BranchElement) → page_at file meta number ≡ Some (branch_page_view further elements)
      → (e : LeafElement)
      → IsEntry file meta (Root_page number) e → IsBelowKid elements e
  branch_below number further elements shown e ([], m, leading, (view, seen, is, has)) = grind arith
  branch_below number further elements shown e (i ∷ address, m, leading, shows) =
      let view : PageView = branch_page_view further elements in
      let node = node_is file meta number view kind.Branch shown refl in
      let (kid, at) = branch_step (node_at file meta) number i m view address node leading in
      (i, kid, at, (address, m, sym (leads_child file meta number i view kid address node at) ∙ leading, shows))

  branch_above : (number further : ℕ) (elements : List BranchElement) → page_at file meta number ≡ Some (branch_page_view further elements)
      → (e : LeafElement)
      → IsBelowKid elements e → IsEntry file meta (Root_page number) e
  branch_above number further elements shown e (i, kid, at, (address, m, leading, shows)) =
      let view : PageView = branch_page_view further elements in
      let node = node_is file meta number view kind.Branch shown refl in
      (i ∷ address, m, leads_child file meta number i view kid address node at ∙ leading, shows)

  record KidsHold (elements : List BranchElement) (items : List (Laid LeafElement)) : Type 0 where
    es : List LeafElement
    are : AreOf es items
    each : (e : LeafElement) → IsBelowKid elements e → Contains es e
    all : (e : LeafElement) → Contains es e → IsBelowKid elements e

  no_kids : KidsHold [] []
  no_kids = grind arith

  same_kid : (a b : BranchElement) → ◌≡◌ {A = Option BranchElement} (Some a) (Some b) → a ≡ b
  same_kid a b e = cc

  more_each : (first : BranchElement) (elements : List BranchElement) (es fs : List LeafElement)
      → ((e : LeafElement) → IsEntry file meta (Root_page first.child) e → Contains es e) → ((e : LeafElement) → IsBelowKid elements e → Contains fs e)
      → (e : LeafElement) → IsBelowKid (first ∷ elements) e → Contains (es ++ fs) e
  more_each first elements es fs one rest e (zero, kid, at, below) =
      let same : first ≡ kid = same_kid first kid at in
      Contains-append_left es fs e (one e (subst (λ (k : BranchElement). IsEntry file meta (Root_page k.child) e) (sym same) below))
  more_each first elements es fs one rest e (suc i, kid, at, below) = Contains-append_right es fs e (rest e (i, kid, at, below))

  more_kids : (first : BranchElement) (elements : List BranchElement) (items others : List (Laid LeafElement)) → Holds first.child items
      → KidsHold elements others → KidsHold (first ∷ elements) (items ++ others)
  more_kids first elements items others one rest = record {
    es = one.es ++ rest.es;
    are = are_append one.es rest.es items others one.are rest.are;
    each = more_each first elements one.es rest.es one.each rest.each;
    all = λ e has. elim (Contains-append_cases one.es rest.es e has) [
      | inl a ↦ (0, first, refl, one.all e a)
      | inr b ↦ (let (i, kid, at, below) = rest.all e b in (suc i, kid, at, below))
    ];
  }

  abbrev HoldsPage : Laid BranchElement → List (Laid LeafElement) → Type 0
  HoldsPage page leaves = (n : ℕ) → 1 ≤ n → n + page.numbers ≤ limit → ArePages (page.pages n) → Holds (page.element n).child leaves

  kids_hold : (page_size height : ℕ)
      → ((page : Laid BranchElement) (leaves : List (Laid LeafElement)) → IsOver page_size height page leaves → HoldsPage page leaves)
      → (kids : List (Laid BranchElement)) (leaves : List (Laid LeafElement)) → Pieces (IsOver page_size height) kids leaves
      → (n : ℕ) → 1 ≤ n → n + numbers_of kids ≤ limit → ArePages (pages_of kids n) → KidsHold (elements_of kids n) leaves
  kids_hold page_size height ih [] leaves h n some room shown = subst (KidsHold []) (sym h) no_kids
  kids_hold page_size height ih (kid ∷ kids) leaves h n some room shown =
      let (x, front, back, e, over, more) = h in
      let both = all_split (λ (p : Placed). page_at file meta p.number ≡ Some p.view) (kid.pages n) (pages_of kids (n + kid.numbers)) shown in
      let one = ih kid (x ∷ front) over n some (omega arith) both.0 in
      let rest = kids_hold page_size height ih kids back more (n + kid.numbers) (omega arith) (omega arith) both.1 in
      subst (KidsHold (elements_of (kid ∷ kids) n)) (sym e) (more_kids (kid.element n) (elements_of kids (n + kid.numbers)) (x ∷ front) back one rest)

  leaf_holds : (page_size : ℕ) (leaves : List (Laid LeafElement)) → HoldsPage (page_over leaf_page_view page_size leaves) leaves
  leaf_holds page_size leaves n some room shown =
      let both = all_split (λ (p : Placed). page_at file meta p.number ≡ Some p.view) (pages_of leaves n) _ shown in
      let further : ℕ = run_overflow page_size leaves in
      let here : page_at file meta (n + numbers_of leaves) ≡ Some (leaf_page_view further (elements_of leaves n)) = both.1.0 in
      record {
        es = elements_of leaves n;
        are = items_are leaves n some (omega arith) both.0;
        each = leaf_entry (n + numbers_of leaves) further (elements_of leaves n) here;
        all = λ e has. ([], n + numbers_of leaves, refl, (leaf_page_view further (elements_of leaves n), here, refl, has));
      }

  branch_holds : (page_size height : ℕ)
      → ((page : Laid BranchElement) (leaves : List (Laid LeafElement)) → IsOver page_size height page leaves → HoldsPage page leaves)
      → (kids : List (Laid BranchElement)) (leaves : List (Laid LeafElement)) → Pieces (IsOver page_size height) kids leaves
      → HoldsPage (page_over branch_page_view page_size kids) leaves
  branch_holds page_size height ih kids leaves pieces n some room shown =
      let both = all_split (λ (p : Placed). page_at file meta p.number ≡ Some p.view) (pages_of kids n) _ shown in
      let further : ℕ = run_overflow page_size kids in
      let here : page_at file meta (n + numbers_of kids) ≡ Some (branch_page_view further (elements_of kids n)) = both.1.0 in
      let held = kids_hold page_size height ih kids leaves pieces n some (omega arith) both.0 in
      record {
        es = held.es;
        are = held.are;
        each = λ e is. held.each e (branch_below (n + numbers_of kids) further (elements_of kids n) here e is);
        all = λ e has. branch_above (n + numbers_of kids) further (elements_of kids n) here e (held.all e has);
      }

  -- the page over a row holds the elements of its items
  pub over_holds : (page_size height : ℕ) (page : Laid BranchElement) (leaves : List (Laid LeafElement)) → IsOver page_size height page leaves
      → HoldsPage page leaves
  over_holds page_size zero page leaves o = grind (arith, leaf_holds)
  over_holds page_size (suc height) page leaves o =
      let (kid, kids, e, fits, pieces) = o in
      subst (λ (p : Laid BranchElement). HoldsPage p leaves) (sym e) (branch_holds page_size height (over_holds page_size height) (kid ∷ kids) leaves pieces)
