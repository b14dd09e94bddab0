-- The tour of a bucket's pages: which pages it has, and that addresses and keys rise along it.
use Rattle.std.proofs.lemmas.Grind.{common_steps}
use Rattle.std.proofs.Common.{◌≡◌, ℕ, zero, suc, ◌+◌, ◌≤◌, ◌<◌, inl, inr, List, [], ◌∷◌, ◌++◌, false, Some, Ok, slice_get, length, map, refl, sym, ap}
use Rattle.std.proofs.Common.{◌∙◌, subst, arith, append_assoc, append-nil}
use Rattle.bolt_lemmas.proofs.Exports.{at_has, get_before, has_at, has_left, has_right, has_split, rises_append, rises_from_gets}
use Rattle.bolt_lemmas.specs.Lists.{Each, Has, RisesBy}
use Rattle.bolt_tree.proofs.Words.{Before, BranchElement, Content, Contents, HasSoundTrees, IsOnWay, IsTrue, LeafElement, Meta, Of_branch, Of_leaf}
use Rattle.bolt_tree.proofs.Words.{PageView, TourPage, all_under, branch_entry, branch_entry_at, branch_key, branch_node, branch_step, cases_lt}
use Rattle.bolt_tree.proofs.Words.{content_at, key_lt, leads, leads_child, leaf_ends, leaf_key, lt_not_trans, lt_trans, node_at, none-some, on_child}
use Rattle.bolt_tree.proofs.Words.{page_at, shallow, slice_get_within, spot_node, tour}
use Rattle.bolt_format.specs.declared.header.Kind.TheVariants as kind
use Rattle.bolt_check.specs.Findings.{keys_of}
use Rattle.bolt_check.proofs.Exports.{leaf_node}
use Rattle.bolt_tree.proofs.WayPages.{a_branch, a_leaf, on_way_page}

-- what lies under the elements of a branch
pub under_has : (f : ℕ → ℕ → List TourPage) (i : ℕ) (elements : List BranchElement) (v : TourPage) → Has (all_under f i elements) v
    → (k : ℕ) × (j : ℕ) × (e : BranchElement) × (slice_get elements k ≡ Some e) × (j ≡ i + k) × Has (f j e.child) v
under_has f i [] v h = absurd h
under_has f i (e ∷ elements) v h = elim (has_split (f i e.child) (all_under f (suc i) elements) v h) [
  | inl l ↦ (0, i, e, refl, omega arith, l)
  | inr r ↦ (let q = under_has f (suc i) elements v r in (suc q.0, q.1, q.2, q.3, (let s = q.4 in omega (arith, s)), q.5))
]

pub has_under : (f : ℕ → ℕ → List TourPage) (i : ℕ) (elements : List BranchElement) (k j : ℕ) (e : BranchElement) (v : TourPage)
    → slice_get elements k ≡ Some e → j ≡ i + k
    → Has (f j e.child) v → Has (all_under f i elements) v
has_under f i (x ∷ elements) (suc k) j e v g s h =
    let next : j ≡ suc i + k = omega arith in
    has_right (f i x.child) (all_under f (suc i) elements) v (has_under f (suc i) elements k j e v g next h)
has_under f i elements k j e v g s h = grind (arith, none-some, has_left)

pub rises_under : (R : TourPage → TourPage → Type 0) (f : ℕ → ℕ → List TourPage) (i : ℕ) (elements : List BranchElement)
    → ((k j : ℕ) (e : BranchElement) → slice_get elements k ≡ Some e → j ≡ i + k → RisesBy R (f j e.child))
    → ((k l a b : ℕ) (d e : BranchElement) (v w : TourPage) → k < l → slice_get elements k ≡ Some d → slice_get elements l ≡ Some e → a ≡ i + k → b ≡ i + l
    → Has (f a d.child) v → Has (f b e.child) w → R v w)
    → RisesBy R (all_under f i elements)
rises_under R f i [] each across = tt
rises_under R f i (x ∷ elements) each across =
    rises_append R (f i x.child) (all_under f (suc i) elements) (each 0 i x refl (omega arith))
    (rises_under R f (suc i) elements (λ k j e g s. each (suc k) j e g (omega arith))
    (λ k l a b d e v w lt g h s t. across (suc k) (suc l) a b d e v w (omega arith) g h (omega arith) (omega arith)))
    (λ v w h k. let q = under_has f (suc i) elements w k in
    let t = q.4 in
    across 0 (suc q.0) i q.1 x q.2 v w (omega arith) refl q.3 (omega arith) (omega arith) h q.5)

-- the entries of a page
abbrev pub entries_shown : Content → List LeafElement
entries_shown (Of_leaf elements) = elements
entries_shown (Of_branch elements) = []

abbrev pub visit_of : List ℕ → Content → TourPage
visit_of address content = record { address = address; entries = entries_shown content }

-- addresses of one page before those of another
pub before_under : (p rest : List ℕ) (i : ℕ) → Before p (p ++ i ∷ rest)
before_under [] rest i = tt
before_under (j ∷ p) rest i = inr (refl, before_under p rest i)

pub before_sides : (p v w : List ℕ) (i j : ℕ) → i < j → Before (p ++ i ∷ v) (p ++ j ∷ w)
before_sides [] v w i j h = inl h
before_sides (k ∷ p) v w i j h = inr (refl, before_sides p v w i j h)

one_step : (p rest : List ℕ) (i : ℕ) → (p ++ i ∷ []) ++ rest ≡ p ++ i ∷ rest
one_step p rest i = append_assoc p (i ∷ []) rest

-- the tour of a page begins with it
pub tour_head : (contents : Contents) (n : ℕ) (address : List ℕ) (content : Content)
    → Has (tour contents n address content) (visit_of address content)
tour_head contents n address content = grind arith

-- A page of the tour that begins at a page and an address: how it is led to from there, and what it is.
pub record IsUnder (file : List ℕ) (meta : Meta) (number : ℕ) (address : List ℕ) (v : TourPage) : Type 0 where
  pub rest : List ℕ
  pub page : ℕ
  pub depth : ℕ
  pub from : v.address ≡ address ++ rest
  pub led : leads (node_at file meta) (Some number) rest ≡ Some page
  pub shown : entries_shown (content_at file meta page) ≡ v.entries
  pub on : IsOnWay file meta page depth

abbrev pub tour_at : List ℕ → Meta → ℕ → List ℕ → ℕ → List TourPage
tour_at file meta n address number = tour (content_at file meta) n address (content_at file meta number)

module _ (file : List ℕ) (meta : Meta) (trees : HasSoundTrees file meta) where
  first_entry : (elements : List BranchElement) → (elements ≡ [] → ⊥) → (e : BranchElement) × (slice_get elements 0 ≡ Some e)
  first_entry [] h = absurd (h refl)
  first_entry (e ∷ elements) h = (e, refl)

  pub filled : (number depth : ℕ) (view : PageView) → IsOnWay file meta number depth → node_at file meta number ≡ Ok (branch_node view)
      → 1 ≤ length view.branches
  filled number depth view on node = grind (arith, common_steps, spot_node, branch_node, first_entry, slice_get_within)

  -- a branch is never so deep that no page could lie under it
  pub not_deepest : (number depth : ℕ) (view : PageView) → IsOnWay file meta number depth → node_at file meta number ≡ Ok (branch_node view)
      → suc depth ≤ 64
  not_deepest number depth view on node =
      let here = spot_node file meta number depth (branch_node view) on node in
      let filled = trees.filled on.way on.spot (branch_node view) on.led here refl in
      let e = first_entry view.branches (λ nil. filled (ap (map branch_entry) nil)) in
      shallow file meta trees e.0.child (suc depth) (on_child file meta number depth 0 view e.0 on node e.1)

  abbrev children : ℕ → List ℕ → ℕ → ℕ → List TourPage
  children n address i child = tour (content_at file meta) n (address ++ i ∷ []) (content_at file meta child)

  pub tour_leaf : (n number : ℕ) (address : List ℕ) (elements : List LeafElement) → content_at file meta number ≡ Of_leaf elements
      → tour_at file meta n address number ≡ record { address = address; entries = elements } ∷ []
  tour_leaf n number address elements is = ap (tour (content_at file meta) n address) is

  pub tour_branch : (n number : ℕ) (address : List ℕ) (elements : List BranchElement) → content_at file meta number ≡ Of_branch elements
      → tour_at file meta (suc n) address number ≡ record { address = address; entries = [] } ∷ all_under (children n address) 0 elements
  tour_branch n number address elements is = ap (tour (content_at file meta) (suc n) address) is

  itself : (number depth : ℕ) (address : List ℕ) (v : TourPage) → IsOnWay file meta number depth → visit_of address (content_at file meta number) ≡ v
      → IsUnder file meta number address v
  itself number depth address v on e = grind (arith, append-nil address)

  -- each page of the tour is led to
  pub tour_led : (n number depth : ℕ) (address : List ℕ) (v : TourPage) → IsOnWay file meta number depth → 64 ≤ depth + n
      → Has (tour_at file meta n address number) v → IsUnder file meta number address v
  tour_led zero number depth address v on deep h = elim (on_way_page file meta trees number depth on) [
    | a_leaf view at is node content ↦ elim (let q = h in subst (λ (l : List TourPage). Has l v) (tour_leaf zero number address view.leaves content) q) [
      | inl e ↦ itself number depth address v on (ap (visit_of address) content ∙ e)
      | inr x ↦ absurd x
    ]
    | a_branch view at is node content ↦ (let d = not_deepest number depth view on node in absurd (omega (arith, d, deep)))
  ]
  tour_led (suc n) number depth address v on deep h = elim (on_way_page file meta trees number depth on) [
    | a_leaf view at is node content ↦ elim (let q = h in subst (λ (l : List TourPage). Has l v) (tour_leaf (suc n) number address view.leaves content) q) [
      | inl e ↦ itself number depth address v on (ap (visit_of address) content ∙ e)
      | inr x ↦ absurd x
    ]
    | a_branch view at is node content ↦ elim (let q = h in subst (λ (l : List TourPage). Has l v) (tour_branch n number address view.branches content) q) [
      | inl e ↦ itself number depth address v on (ap (visit_of address) content ∙ e)
      | inr x ↦ (
          let q = under_has (children n address) 0 view.branches v x in
          let same : q.1 ≡ q.0 = (let s = q.4 in omega (arith, s)) in
          let on2 = on_child file meta number depth q.0 view q.2 on node q.3 in
          let r = tour_led n q.2.child (suc depth) (address ++ q.1 ∷ []) v on2 (omega arith) q.5 in
          record {
            rest = q.0 ∷ r.rest;
            page = r.page;
            depth = r.depth;
            from = r.from ∙ (one_step address r.rest q.1 ∙ ap (λ (i : ℕ). address ++ i ∷ r.rest) same);
            led = leads_child file meta number q.0 view q.2 r.rest node q.3 ∙ r.led;
            shown = r.shown;
            on = r.on;
          })
    ]
  ]

  -- and each page that is led to is on the tour
  pub led_tour : (n number depth : ℕ) (address rest : List ℕ) (page : ℕ) → IsOnWay file meta number depth → 64 ≤ depth + n
      → leads (node_at file meta) (Some number) rest ≡ Some page
      → Has (tour_at file meta n address number) (visit_of (address ++ rest) (content_at file meta page))
  led_tour n number depth address [] page on deep l = grind (arith, append-nil, tour_head)
  led_tour zero number depth address (i ∷ rest) page on deep l = elim (on_way_page file meta trees number depth on) [
    | a_leaf view at is node content ↦ absurd (leaf_ends (node_at file meta) number i page view rest node l)
    | a_branch view at is node content ↦ (let d = not_deepest number depth view on node in absurd (omega (arith, d, deep)))
  ]
  led_tour (suc n) number depth address (i ∷ rest) page on deep l = elim (on_way_page file meta trees number depth on) [
    | a_leaf view at is node content ↦ absurd (leaf_ends (node_at file meta) number i page view rest node l)
    | a_branch view at is node content ↦ (
        let e = branch_step (node_at file meta) number i page view rest node l in
        let l2 : leads (node_at file meta) (Some e.0.child) rest ≡ Some page = sym (leads_child file meta number i view e.0 rest node e.1) ∙ l in
        let r = led_tour n e.0.child (suc depth) (address ++ i ∷ []) rest page (on_child file meta number depth i view e.0 on node e.1) (omega arith) l2 in
        let v : TourPage = visit_of (address ++ i ∷ rest) (content_at file meta page) in
        let r2 : Has (children n address i e.0.child) v =
        subst (λ (a : List ℕ). Has (children n address i e.0.child) (visit_of a (content_at file meta page))) (one_step address rest i) r in
        let all : Has (all_under (children n address) 0 view.branches) v = has_under (children n address) 0 view.branches i i e.0 v e.1 (omega arith) r2 in
        subst (λ (t : List TourPage). Has t v) (sym (tour_branch n number address view.branches content)) (inr all))
  ]

-- what stands before, also in byte order
pub record IsApart (v w : TourPage) : Type 0 where
  pub addresses : Before v.address w.address
  pub keys : (x y : LeafElement) → Has v.entries x → Has w.entries y → IsTrue (key_lt x.key y.key)

abbrev pub IsBelowElement : LeafElement → LeafElement → Type 0
IsBelowElement x y = IsTrue (key_lt x.key y.key)

-- an element of a page that is led to is one of a leaf
pub record IsElementOf (file : List ℕ) (meta : Meta) (page : ℕ) (entries : List LeafElement) : Type 0 where
  pub view : PageView
  pub at : page_at file meta page ≡ Some view
  pub is : view.kind ≡ kind.Leaf
  pub node : node_at file meta page ≡ Ok (leaf_node view)
  pub leaves : view.leaves ≡ entries

module _ (file : List ℕ) (meta : Meta) (trees : HasSoundTrees file meta) where
  pub leaf_of : (page depth : ℕ) (entries : List LeafElement) (x : LeafElement) → IsOnWay file meta page depth
      → entries_shown (content_at file meta page) ≡ entries
      → Has entries x → IsElementOf file meta page entries
  leaf_of page depth entries x on shown h = elim (on_way_page file meta trees page depth on) [
    | a_leaf view at is node content ↦ record { view = view; at = at; is = is; node = node; leaves = sym (ap entries_shown content) ∙ shown }
    | a_branch view at is node content ↦ (
        let none : [] ≡ entries = sym (ap entries_shown content) ∙ shown in
        absurd (let q = h in subst (λ (es : List LeafElement). Has es x) (sym none) q))
  ]

  -- an element under a child is not below the child's key, and is below the next
  pub under_child : (number depth k : ℕ) (address : List ℕ) (view : PageView) (d : BranchElement) (v : TourPage) (x : LeafElement)
      → IsOnWay file meta number depth
      → node_at file meta number ≡ Ok (branch_node view) → slice_get view.branches k ≡ Some d → IsUnder file meta d.child address v → Has v.entries x
      → (key_lt x.key d.key ≡ false) × ((next : BranchElement) → slice_get view.branches (suc k) ≡ Some next → IsTrue (key_lt x.key next.key))
  under_child number depth k address view d v x on node g r h =
      let here = spot_node file meta number depth (branch_node view) on node in
      let leaf = leaf_of r.page r.depth v.entries x r.on r.shown h in
      let at = has_at v.entries x h in
      let key : slice_get (keys_of (leaf_node leaf.view).entries) at.0 ≡ Some x.key =
      leaf_key leaf.view.leaves at.0 x (ap (λ (es : List LeafElement). slice_get es at.0) leaf.leaves ∙ at.1) in
      let b = trees.bounded on.way r.rest on.spot (branch_node view) (leaf_node leaf.view) k at.0 r.page x.key (branch_entry d) on.led here refl
      (branch_entry_at view.branches k d g) r.led leaf.node key in
      (b.0, λ next n. b.1 (branch_entry next) (branch_entry_at view.branches (suc k) next n))

  -- the keys of a branch rise
  pub branches_rise : (number depth k l : ℕ) (view : PageView) (d e : BranchElement) → IsOnWay file meta number depth
      → node_at file meta number ≡ Ok (branch_node view)
      → k < l → slice_get view.branches k ≡ Some d → slice_get view.branches l ≡ Some e → IsTrue (key_lt d.key e.key)
  branches_rise number depth k l view d e on node lt g h =
      let here = spot_node file meta number depth (branch_node view) on node in
      trees.rising on.way on.spot (branch_node view) on.led here k l d.key e.key lt (branch_key view.branches k d g) (branch_key view.branches l e h)

  -- an element under one child is below those under a later one
  pub keys_across : (number depth k l : ℕ) (p q : List ℕ) (view : PageView) (d e : BranchElement) (v w : TourPage) (x y : LeafElement)
      → IsOnWay file meta number depth
      → node_at file meta number ≡ Ok (branch_node view) → k < l → slice_get view.branches k ≡ Some d → slice_get view.branches l ≡ Some e
      → IsUnder file meta d.child p v → IsUnder file meta e.child q w → Has v.entries x → Has w.entries y → IsTrue (key_lt x.key y.key)
  keys_across number depth k l p q view d e v w x y on node lt g h r s hx hy =
      let a = under_child number depth k p view d v x on node g r hx in
      let b = under_child number depth l q view e w y on node h s hy in
      elim (cases_lt (suc k) l) [
        | inl more ↦ (
            let f = get_before view.branches (suc k) l e more h in
            lt_not_trans x.key e.key y.key
            (lt_trans x.key f.0.key e.key (a.1 f.0 f.1) (branches_rise number depth (suc k) l view f.0 e on node more f.1 h)) b.0)
        | inr less ↦ (
            let same : l ≡ suc k = omega arith in
            let h2 : slice_get view.branches (suc k) ≡ Some e = ap (slice_get view.branches) (sym same) ∙ h in
            lt_not_trans x.key e.key y.key (a.1 e h2) b.0)
      ]

  -- along the tour addresses rise, and keys
  pub tour_rises : (n number depth : ℕ) (address : List ℕ) → IsOnWay file meta number depth → 64 ≤ depth + n
      → RisesBy IsApart (tour_at file meta n address number)
  tour_rises zero number depth address on deep = grind arith
  tour_rises (suc n) number depth address on deep = elim (on_way_page file meta trees number depth on) [
    | a_leaf view at is node content ↦
        subst (RisesBy IsApart) (sym (tour_leaf file meta trees (suc n) number address view.leaves content)) (λ y h. absurd h, tt)
    | a_branch view at is node content ↦ (
        let f = children file meta trees n address in
        let child : (k j : ℕ) (e : BranchElement) → slice_get view.branches k ≡ Some e → IsOnWay file meta e.child (suc depth) =
        λ k j e g. on_child file meta number depth k view e on node g in
        let led : (k j : ℕ) (e : BranchElement) (v : TourPage) → slice_get view.branches k ≡ Some e → Has (f j e.child) v
        → IsUnder file meta e.child (address ++ j ∷ []) v =
        λ k j e v g h. tour_led file meta trees n e.child (suc depth) (address ++ j ∷ []) v (child k j e g) (omega arith) h in
        let rest : RisesBy IsApart (all_under f 0 view.branches) = rises_under IsApart f 0 view.branches
        (λ k j e g s. tour_rises n e.child (suc depth) (address ++ j ∷ []) (child k j e g) (omega arith))
        (λ k l a b d e v w lt g h s t hv hw.
        let r = led k a d v g hv in
        let u = led l b e w h hw in record {
          addresses =
              let before : Before (address ++ a ∷ r.rest) (address ++ b ∷ u.rest) = before_sides address r.rest u.rest a b (omega arith) in
              rw (r.from ∙ one_step address r.rest a, u.from ∙ one_step address u.rest b) before;
          keys = λ x y hx hy. keys_across number depth k l (address ++ a ∷ []) (address ++ b ∷ []) view d e v w x y on node lt g h r u hx hy;
        }) in
        let first : Each (IsApart (record { address = address; entries = [] })) (all_under f 0 view.branches) =
        λ v h. (let q = under_has f 0 view.branches v h in
        let r = led q.0 q.1 q.2 v q.3 q.5 in record {
          addresses = rw (r.from ∙ one_step address r.rest q.1) (before_under address r.rest q.1);
          keys = λ x y hx hy. absurd hx;
        }) in
        subst (RisesBy IsApart) (sym (tour_branch file meta trees n number address view.branches content)) (first, rest))
  ]

  -- and so do the keys of each page
  pub page_rises : (page depth : ℕ) (entries : List LeafElement) → IsOnWay file meta page depth → entries_shown (content_at file meta page) ≡ entries
      → RisesBy IsBelowElement entries
  page_rises page depth entries on shown = rises_from_gets IsBelowElement entries (λ i j a b lt g h.
      let leaf = leaf_of page depth entries a on shown (at_has entries i a g) in
      let here = spot_node file meta page depth (leaf_node leaf.view) on leaf.node in
      let key : (k : ℕ) (x : LeafElement) → slice_get entries k ≡ Some x → slice_get (keys_of (leaf_node leaf.view).entries) k ≡ Some x.key =
      λ k x s. leaf_key leaf.view.leaves k x (ap (λ (es : List LeafElement). slice_get es k) leaf.leaves ∙ s) in
      trees.rising on.way on.spot (leaf_node leaf.view) on.led here i j a.key b.key lt (key i a g) (key j b h))
