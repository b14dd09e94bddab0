-- On the way down to the leaf that is near a key, the key is between what was passed and what comes later.
use Rattle.std.proofs.Common.{◌≡◌, ℕ, suc, ◌+◌, ◌-◌, ◌≤◌, ◌<◌, inl, inr, Bool, true, false, List, [], ◌∷◌, ◌++◌, Some, Ok, slice_get, length, drop}
use Rattle.std.proofs.Common.{take, refl, sym, ap, ◌∙◌, subst, arith}
use Rattle.bolt_lemmas.proofs.Exports.{at_has, drop_get, flat_has, get_before, has_at, has_split, take_get}
use Rattle.bolt_lemmas.specs.Lists.{Has}
use Rattle.bolt_tree.proofs.Words.{AreBelow, BranchElement, BucketView, Contents, Frame, HasSoundTrees, HasStack, IsBetween, IsOnWay, IsNumberBefore}
use Rattle.bolt_tree.proofs.Words.{Key, LeafElement, Meta, Of_branch, PageView, TourPage, address_on, branch_node, cases_lt, content_at, content_keys}
use Rattle.bolt_tree.proofs.Words.{contents_in, tour_elements, false_from_ne_true, flat_map-append, key_lt, passed_of, lt_not_trans, lt_trans}
use Rattle.bolt_tree.proofs.Words.{node_at, not-false, not-true, on_child, option_map, props, later_of, slice_get-map, tour, under_at}
use Rattle.bolt_tree.proofs.Words.{∥∥₁_elim}
use Rattle.bolt_tree.proofs.{TourLemmas.IsUnder, TourLemmas.branches_rise, TourLemmas.tour_led, TourLemmas.under_child, TourLemmas.under_has}
use Rattle.bolt_tree.proofs.{WayPages.branch_page}

pub not_below : (x d key : Key) → key_lt x d ≡ false → key_lt key d ≡ true → key_lt x key ≡ false
not_below x d key h k = false_from_ne_true (key_lt x key) (λ t. let less : key_lt x d ≡ true = lt_trans x key d t k in cc)

module _ (file : List ℕ) (meta : Meta) (trees : HasSoundTrees file meta) where
  -- an element that lies under one of a branch, not below its key, and below those behind it
  module _ (number H : ℕ) (view : PageView) (on : IsOnWay file meta number (suc H)) (node : node_at file meta number ≡ Ok (branch_node view))
      (deep : suc (suc H) ≤ 64) (address : List ℕ) where
    under_led : (k j : ℕ) (d : BranchElement) (v : TourPage) → slice_get view.branches k ≡ Some d
        → Has (tour (content_at file meta) (62 - H) (address ++ j ∷ []) (content_at file meta d.child)) v
        → IsUnder file meta d.child (address ++ j ∷ []) v
    under_led k j d v g h =
        tour_led file meta trees (62 - H) d.child (suc (suc H)) (address ++ j ∷ []) v (on_child file meta number (suc H) k view d on node g)
        (omega (arith, deep)) h

    pub from_under : (k j : ℕ) (d : BranchElement) (v : TourPage) (x : LeafElement) → slice_get view.branches k ≡ Some d
        → Has (tour (content_at file meta) (62 - H) (address ++ j ∷ []) (content_at file meta d.child)) v
        → Has v.entries x → key_lt x.key d.key ≡ false
    from_under k j d v x g h m = (under_child file meta trees number (suc H) k (address ++ j ∷ []) view d v x on node g (under_led k j d v g h) m).0

    pub below_later : (k l j : ℕ) (d e : BranchElement) (v : TourPage) (x : LeafElement) → k < l → slice_get view.branches k ≡ Some d
        → slice_get view.branches l ≡ Some e
        → Has (tour (content_at file meta) (62 - H) (address ++ j ∷ []) (content_at file meta d.child)) v → Has v.entries x → key_lt x.key e.key ≡ true
    below_later k l j d e v x lt g h led m =
        let a = under_child file meta trees number (suc H) k (address ++ j ∷ []) view d v x on node g (under_led k j d v g led) m in
        elim (cases_lt (suc k) l) [
          | inl more ↦
              (let f = get_before view.branches (suc k) l e more h in
              lt_trans x.key f.0.key e.key (a.1 f.0 f.1) (branches_rise file meta trees number (suc H) (suc k) l view f.0 e on node more f.1 h))
          | inr less ↦
              (let same : l ≡ suc k = omega arith in
              let h2 : slice_get view.branches (suc k) ≡ Some e = ap (slice_get view.branches) (sym same) ∙ h in
              a.1 e h2)
        ]

    abbrev under_all : ℕ → List BranchElement → List TourPage
    under_all i elements = under_at (content_at file meta) H address i elements

    pub side_left : (i : ℕ) (e : BranchElement) (key : Key) (x : LeafElement) → slice_get view.branches i ≡ Some e → key_lt key e.key ≡ false
        → Has (tour_elements (under_all 0 (take i view.branches))) x → key_lt x.key key ≡ true
    side_left i e key x g h m =
        let r = flat_has (λ (v : TourPage). v.entries) (under_all 0 (take i view.branches)) x m in
        let q = under_has (λ j child. tour (content_at file meta) (62 - H) (address ++ j ∷ []) (content_at file meta child)) 0 (take i view.branches) r.0 r.1 in
        let d = take_get view.branches i q.0 q.2 q.3 in
        lt_not_trans x.key e.key key (below_later q.0 i q.1 q.2 e r.0 x d.1 d.0 g q.5 r.2) h

    pub side_right : (i : ℕ) (key : Key) (x : LeafElement)
        → ((k : ℕ) (d : BranchElement) → i ≤ k → slice_get view.branches k ≡ Some d → key_lt key d.key ≡ true)
        → Has (tour_elements (under_all i (drop i view.branches))) x → key_lt x.key key ≡ false
    side_right i key x later m =
        let r = flat_has (λ (v : TourPage). v.entries) (under_all i (drop i view.branches)) x m in
        let q = under_has (λ j child. tour (content_at file meta) (62 - H) (address ++ j ∷ []) (content_at file meta child)) i (drop i view.branches) r.0 r.1 in
        let at : slice_get view.branches (i + q.0) ≡ Some q.2 = drop_get view.branches i q.0 (i + q.0) q.2 refl q.3 in
        not_below x.key q.2.key key (from_under (i + q.0) q.1 q.2 r.0 x at q.5 r.2) (later (i + q.0) q.2 (omega arith) at)

branch_key_at : (elements : List BranchElement) (k : ℕ) (d : BranchElement) → slice_get elements k ≡ Some d
    → slice_get (content_keys (Of_branch elements)) k ≡ Some d.key
branch_key_at elements k d g = slice_get-map (λ (e : BranchElement). e.key) elements k ∙ ap (option_map (λ (e : BranchElement). e.key)) g

-- keys by the place of one among them
pub not_above : (elements : List BranchElement) (key : Key) (n k : ℕ) (d : BranchElement)
    → IsNumberBefore (content_keys (Of_branch elements)) true key n → k < n → slice_get elements k ≡ Some d → key_lt key d.key ≡ false
not_above elements key n k d place h g = not-true (key_lt key d.key) (place.below k d.key h (branch_key_at elements k d g))

pub is_above : (elements : List BranchElement) (key : Key) (n k : ℕ) (d : BranchElement)
    → IsNumberBefore (content_keys (Of_branch elements)) true key n → n ≤ k → slice_get elements k ≡ Some d → key_lt key d.key ≡ true
is_above elements key n k d place h g = not-false (key_lt key d.key) (place.above k d.key h (branch_key_at elements k d g))

pub are_append : (below : Bool) (key : Key) (xs ys : List LeafElement) → AreBelow below key xs → AreBelow below key ys → AreBelow below key (xs ++ ys)
are_append below key xs ys a b k e g = elim (has_split xs ys e (at_has (xs ++ ys) k e g)) [
  | inl l ↦ (let p = has_at xs e l in a p.0 e p.1)
  | inr r ↦ (let p = has_at ys e r in b p.0 e p.1)
]

nothing_left : (contents : Contents) (H : ℕ) (address : List ℕ) (i : ℕ) (elements : List BranchElement) (x : LeafElement) → i ≡ 0
    → Has (tour_elements (under_at contents H address 0 (take i elements))) x → ⊥
nothing_left contents H address i elements x e h = grind arith

-- under the nearest element the key still stands between
pub between_down : (bucket : BucketView) (key : Key) (elements : List BranchElement) (i n t : ℕ) (e : BranchElement) (below : List Frame)
    → HasStack bucket (record { content = Of_branch elements; taken = t } ∷ below) → i ≡ n - 1 → slice_get elements i ≡ Some e
    → IsNumberBefore (content_keys (Of_branch elements)) true key n → (suc (suc (length below)) ≤ 64) → IsBetween (contents_in bucket) key below
    → IsBetween (contents_in bucket) key (record { content = Of_branch elements; taken = i + 1 } ∷ below)
between_down bucket key elements i n t e below stack is g place deep between =
    let contents = contents_in bucket in
    let back : (i + 1) - 1 ≡ i = omega arith in
    let next : i + 1 ≡ suc i = omega arith in
    record {
      passed =
          let inner : AreBelow true key (tour_elements (under_at contents (length below) (address_on below) 0 (take i elements))) = λ k x h.
          ∥∥₁_elim stack (Prim.hlevel props) (λ s.
          let page = branch_page bucket.file bucket.meta s.0.trees s.1.0.good.0 (suc (length below)) elements s.1.0.good.1 s.1.0.good.2 in
          let m = rw (← page.branches) at (at_has (tour_elements (under_at contents (length below) (address_on below) 0 (take i elements))) k x h) in
          elim (cases_lt i n) [
            | inl lt ↦
                side_left bucket.file bucket.meta s.0.trees s.1.0.good.0 (length below) page.view s.1.0.good.1 page.node deep (address_on below) i e key x
                (rw page.branches g) (not_above elements key n i e place lt g) m
            | inr ge ↦
                (let zero_i : i ≡ 0 = omega arith in
                absurd (nothing_left contents (length below) (address_on below) i elements x zero_i
                (at_has (tour_elements (under_at contents (length below) (address_on below) 0 (take i elements))) k x h)))
          ]) in
          let whole : tour_elements (passed_of contents (record { content = Of_branch elements; taken = i + 1 } ∷ below))
          ≡ tour_elements (passed_of contents below) ++ tour_elements (under_at contents (length below) (address_on below) 0 (take i elements)) =
          flat_map-append (λ (v : TourPage). v.entries) (passed_of contents below)
          (record { address = address_on below; entries = [] } ∷ under_at contents (length below) (address_on below) 0 (take ((i + 1) - 1) elements))
          ∙ ap (λ (j : ℕ). tour_elements (passed_of contents below)
          ++ tour_elements (under_at contents (length below) (address_on below) 0 (take j elements))) back in
          subst (AreBelow true key) (sym whole)
          (are_append true key (tour_elements (passed_of contents below))
          (tour_elements (under_at contents (length below) (address_on below) 0 (take i elements))) between.passed inner);
      later =
          let inner : AreBelow false key (tour_elements (under_at contents (length below) (address_on below) (suc i) (drop (suc i) elements))) = λ k x h.
          ∥∥₁_elim stack (Prim.hlevel props) (λ s.
          let page = branch_page bucket.file bucket.meta s.0.trees s.1.0.good.0 (suc (length below)) elements s.1.0.good.1 s.1.0.good.2 in
          let m =
          rw (← page.branches) at (at_has (tour_elements (under_at contents (length below) (address_on below) (suc i) (drop (suc i) elements))) k x h) in
          side_right bucket.file bucket.meta s.0.trees s.1.0.good.0 (length below) page.view s.1.0.good.1 page.node deep (address_on below) (suc i) key x
          (λ j d l gd.
          is_above elements key n j d place (omega (arith, l, is)) (ap (λ (es : List BranchElement). slice_get es j) (sym page.branches) ∙ gd)) m) in
          let whole : tour_elements (later_of contents (record { content = Of_branch elements; taken = i + 1 } ∷ below))
          ≡ tour_elements (under_at contents (length below) (address_on below) (suc i) (drop (suc i) elements)) ++ tour_elements (later_of contents below) =
          flat_map-append (λ (v : TourPage). v.entries) (under_at contents (length below) (address_on below) (i + 1) (drop (i + 1) elements))
          (later_of contents below)
          ∙ ap (λ (j : ℕ). tour_elements (under_at contents (length below) (address_on below) j (drop j elements))
          ++ tour_elements (later_of contents below)) next in
          subst (AreBelow false key) (sym whole)
          (are_append false key (tour_elements (under_at contents (length below) (address_on below) (suc i) (drop (suc i) elements)))
          (tour_elements (later_of contents below)) inner between.later);
    }
