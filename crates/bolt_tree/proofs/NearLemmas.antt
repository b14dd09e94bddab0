-- The nearest leaf to a key: the way down to it, step by step, and what lies ahead of the key there.
use Rattle.std.proofs.Common.{◌≡◌, ℕ, suc, ◌+◌, ◌-◌, ◌≤◌, inl, inr, true, false, List, [], ◌∷◌, ◌++◌, Some, slice_get, length, map, drop, take, refl}
use Rattle.std.proofs.Common.{sym, ap, ◌∙◌, subst, arith, append_assoc, length-append, append-nil}
use Rattle.bolt_lemmas.proofs.Exports.{drop_front, drop_get, has_right, rises_gets, take_get}
use Rattle.bolt_lemmas.specs.Lists.{Has}
use Rattle.bolt_tree.proofs.Words.{AreBelow, BranchElement, BucketView, Content, Contents, Frame, HasSoundTrees, HasStack, Inline_page, IsBetween}
use Rattle.bolt_tree.proofs.Words.{IsLeafTop, IsNear, IsNearFrom, IsNearTo, IsNearTop, IsNearest, IsOnWayDown, IsNumberBefore, IsSought}
use Rattle.bolt_tree.proofs.Words.{IsSoundBucket, IsStart, Key, KeysRise, LeafElement, Meta, Of_branch, Of_leaf, Root_page, Start, TourPage}
use Rattle.bolt_tree.proofs.Words.{address_on, ahead_of, branch_key, branch_node, cases_lt, content_at, content_at_start, content_keys}
use Rattle.bolt_tree.proofs.Words.{content_length, contents_in, elements_in, tour_elements, key_lt, least_from, passed_of, none-some, on_child}
use Rattle.bolt_tree.proofs.Words.{opened_content, option_map, tour_pages_in, props, later_of, root_content, slice_get-map, spot_node, tour, ∥∥₁_elim}
use Rattle.bolt_tree.proofs.Words.{∥∥₁_map, ∥∥₁_prop}
use Rattle.bolt_tree.proofs.{PlaceMoves.leaf_parts, SeekLemmas.are_append, SeekLemmas.is_above}
use Rattle.bolt_tree.proofs.SeekLemmas.{not_above}
use Rattle.bolt_tree.proofs.{RisingEntries.visit_is, TourLemmas.IsBelowElement, TourLemmas.filled, WayPages.a_branch, WayPages.a_leaf}
use Rattle.bolt_tree.proofs.{WayPages.on_way_page, WayPages.branch_page, StackLemmas.retaken}
use Rattle.bolt_format.specs.{TreePages.leaves_on, declared.tree_page.BranchPage.BranchPage, declared.tree_page.TreePage.TreePage}
use Rattle.bolt_format.specs.declared.tree_page.TreePage.TheVariants.{Branch, Leaf}

-- the element with a key
key_at : {X : Type 0} (f : X → Key) (xs : List X) (i : ℕ) (a : Key) → slice_get (map f xs) i ≡ Some a
    → (x : X) × (slice_get xs i ≡ Some x) × (f x ≡ a)
key_at f (x ∷ xs) (suc i) a g = key_at f xs i a g
key_at f xs i a g = grind (arith, none-some)

-- the keys of a page on a stack rise
leaf_rises : (bucket : BucketView) (es : List LeafElement) (t : ℕ) (below : List Frame)
    → HasStack bucket (record { content = Of_leaf es; taken = t } ∷ below) → KeysRise (content_keys (Of_leaf es))
leaf_rises bucket es t below stack = λ i j a c l g h.
    let x = key_at (λ (e : LeafElement). e.key) es i a g in
    let y = key_at (λ (e : LeafElement). e.key) es j c h in
    let less : key_lt x.0.key y.0.key ≡ true = ∥∥₁_elim stack (Prim.hlevel props) (λ k.
    let v : TourPage = record { address = address_on below; entries = es } in
    let here : Has (tour_pages_in bucket) v =
    subst (λ (vs : List TourPage). Has vs v) (sym k.1.0.placed)
    (has_right (passed_of (contents_in bucket) below) (v ∷ later_of (contents_in bucket) below) v (inl refl)) in
    rises_gets IsBelowElement es i j x.0 y.0 (visit_is bucket.file bucket.meta k.0.trees bucket.start v k.0.start here).rises l x.1 y.1) in
    rw (← x.2, ← y.2) less

branch_rises : (bucket : BucketView) (bs : List BranchElement) (t : ℕ) (below : List Frame)
    → HasStack bucket (record { content = Of_branch bs; taken = t } ∷ below) → KeysRise (content_keys (Of_branch bs))
branch_rises bucket bs t below stack = λ i j a c l g h.
    let x = key_at (λ (e : BranchElement). e.key) bs i a g in
    let y = key_at (λ (e : BranchElement). e.key) bs j c h in
    let less : key_lt x.0.key y.0.key ≡ true = ∥∥₁_elim stack (Prim.hlevel props) (λ k.
    let on = k.1.0.good.1 in
    let page = branch_page bucket.file bucket.meta k.0.trees k.1.0.good.0 (suc (length below)) bs on k.1.0.good.2 in
    let here = spot_node bucket.file bucket.meta k.1.0.good.0 (suc (length below)) (branch_node page.view) on page.node in
    let get : (m : ℕ) (e : BranchElement) → slice_get bs m ≡ Some e → slice_get page.view.branches m ≡ Some e =
    λ m e s. ap (λ (es : List BranchElement). slice_get es m) page.branches ∙ s in
    k.0.trees.rising on.way on.spot (branch_node page.view) on.led here i j x.0.key y.0.key l (branch_key page.view.branches i x.0 (get i x.0 x.1))
    (branch_key page.view.branches j y.0 (get j y.0 y.1))) in
    rw (← x.2, ← y.2) less

pub stack_rises : (bucket : BucketView) (content : Content) (t : ℕ) (below : List Frame)
    → HasStack bucket (record { content = content; taken = t } ∷ below) → KeysRise (content_keys content)
stack_rises bucket (Of_leaf es) t below stack = leaf_rises bucket es t below stack
stack_rises bucket (Of_branch bs) t below stack = branch_rises bucket bs t below stack

-- the way down begins at the root page
near_begin : (file : List ℕ) (meta : Meta) (start : Start) (key : Key) → IsStart file meta start
    → IsNearTo file meta start key [] (content_at_start (content_at file meta) start)
near_begin file meta start key is = grind arith

pub way_begins : (bucket : BucketView) (key : Key) → ∥ IsSoundBucket bucket ∥₁ → IsOnWayDown bucket key [] (root_content bucket)
way_begins bucket key is = ∥∥₁_map is (λ s. near_begin bucket.file bucket.meta bucket.start key s.start)

near_down : (file : List ℕ) (meta : Meta) (trees : HasSoundTrees file meta) (start : Start) (key : Key) (address : List ℕ) (bs : List BranchElement)
    (i : ℕ) (e : BranchElement)
    → IsNearTo file meta start key address (Of_branch bs) → IsNearest bs key i → slice_get bs i ≡ Some e
    → IsNearTo file meta start key (address ++ i ∷ []) (content_at file meta e.child)
near_down file meta trees (Root_page root) key address bs i e (number, depth, on, shown, on_from) nearest g =
    let page = branch_page file meta trees number depth bs on shown in
    let at : slice_get page.view.branches i ≡ Some e = ap (λ (es : List BranchElement). slice_get es i) page.branches ∙ g in
    let best : IsNearest page.view.branches key i = subst (λ (es : List BranchElement). IsNearest es key i) (sym page.branches) nearest in (
      e.child,
      suc depth,
      on_child file meta number depth i page.view e on page.node at,
      refl,
      λ rest n. (let r = on_from (i ∷ rest) (page.view, e, page.at, page.is, best, at, n) in
          subst (λ (a : List ℕ). IsNearFrom file meta root key a) (sym (append_assoc address (i ∷ []) rest)) r),
    )
near_down file meta trees (Inline_page elements) key address bs i e near nearest g = absurd (let c : Of_leaf elements ≡ Of_branch bs = near.1 in cc)

nearest_of : (bs : List BranchElement) (key : Key) (n i : ℕ) (e : BranchElement) → IsNumberBefore (content_keys (Of_branch bs)) true key n → i ≡ n - 1
    → slice_get bs i ≡ Some e → IsNearest bs key i
nearest_of bs key n i e place is g = elim (cases_lt i n) [
  | inl lt ↦ inl (e, g, not_above bs key n i e place lt g, λ j f l h. is_above bs key n j f place (omega arith) h)
  | inr ge ↦ inr (omega arith, λ j f h. is_above bs key n j f place (omega arith) h)
]

pub way_down : (bucket : BucketView) (key : Key) (below : List Frame) (bs : List BranchElement) (n i t : ℕ) (e : BranchElement)
    → HasStack bucket (record { content = Of_branch bs; taken = t } ∷ below)
    → IsOnWayDown bucket key below (Of_branch bs) → IsNumberBefore (content_keys (Of_branch bs)) true key n → i ≡ n - 1 → slice_get bs i ≡ Some e
    → IsOnWayDown bucket key (record { content = Of_branch bs; taken = i + 1 } ∷ below) (contents_in bucket e.child)
way_down bucket key below bs n i t e stack near place is g = ∥∥₁_elim stack ∥∥₁_prop (λ s. ∥∥₁_map near (λ k.
    let back : (i + 1) - 1 ≡ i = omega arith in
    rw back (near_down bucket.file bucket.meta s.0.trees bucket.start key (address_on below) bs i e k (nearest_of bs key n i e place is g) g)))

-- and ends at a leaf
near_end : (file : List ℕ) (meta : Meta) (trees : HasSoundTrees file meta) (start : Start) (key : Key) (address : List ℕ) (es : List LeafElement)
    → IsNearTo file meta start key address (Of_leaf es) → IsNear file meta start key address
near_end file meta trees (Root_page root) key address es near = elim (on_way_page file meta trees near.0 near.1 near.2) [
  | a_leaf view at k node content ↦ (let r = near.4 [] (view, at, k) in subst (λ (a : List ℕ). IsNearFrom file meta root key a) (append-nil address) r)
  | a_branch view at k node content ↦ absurd (let c : Of_leaf es ≡ Of_branch view.branches = sym near.3 ∙ content in cc)
]
near_end file meta trees (Inline_page page) key address es near = near.0

pub way_ends : (bucket : BucketView) (key : Key) (below : List Frame) (es : List LeafElement) (t u : ℕ)
    → HasStack bucket (record { content = Of_leaf es; taken = u } ∷ below) → IsOnWayDown bucket key below (Of_leaf es)
    → IsNearTop bucket key (record { content = Of_leaf es; taken = t } ∷ below)
way_ends bucket key below es t u stack near =
    ∥∥₁_elim stack ∥∥₁_prop (λ s. ∥∥₁_map near (λ k. near_end bucket.file bucket.meta s.0.trees bucket.start key (address_on below) es k))

-- the least entry that is not below the key
least_is : (key : Key) (front back : List LeafElement) → AreBelow true key front → AreBelow false key back
    → least_from key ((front ++ back)) ≡ length front
least_is key [] [] f b = refl
least_is key [] (y ∷ back) f b = let t : key_lt y.key key ≡ false = b 0 y refl in rw t refl
least_is key (x ∷ front) back f b =
    let t : key_lt x.key key ≡ true = f 0 x refl in
    rw (t, least_is key front back (λ k e g. f (suc k) e g) b) (omega arith)

-- what a key stands between in the nearest leaf
leaf_key_at : (es : List LeafElement) (k : ℕ) (e : LeafElement) → slice_get es k ≡ Some e → slice_get (content_keys (Of_leaf es)) k ≡ Some e.key
leaf_key_at es k e g = slice_get-map (λ (x : LeafElement). x.key) es k ∙ ap (option_map (λ (x : LeafElement). x.key)) g

sought_leaf : (contents : Contents) (n : ℕ) (whole : List TourPage) (key : Key) (es : List LeafElement) (t : ℕ) (below : List Frame)
    → whole ≡ passed_of contents below ++ (tour contents n (address_on below) (Of_leaf es) ++ later_of contents below)
    → IsNumberBefore (content_keys (Of_leaf es)) false key t → t ≤ length es → IsBetween contents key below
    → IsSought (tour_elements whole) key (ahead_of contents (record { content = Of_leaf es; taken = t } ∷ below))
sought_leaf contents n whole key es t below placed place most between =
    let left = tour_elements (passed_of contents below) in
    let right = tour_elements (later_of contents below) in
    let parts = leaf_parts contents n whole es t below placed in
    let front : AreBelow true key (left ++ take t es) = are_append true key left (take t es) between.passed
    (λ k e g. let r = take_get es t k e g in place.below k e.key r.1 (leaf_key_at es k e r.0)) in
    let back : AreBelow false key (drop t es ++ right) = are_append false key (drop t es) right
    (λ k e g. let r = drop_get es t k (t + k) e refl g in place.above (t + k) e.key (omega arith) (leaf_key_at es (t + k) e r)) between.later in
    grind (arith, least_is, length-append, drop_front)

pub sought : (bucket : BucketView) (key : Key) (es : List LeafElement) (t u : ℕ) (below : List Frame)
    → HasStack bucket (record { content = Of_leaf es; taken = u } ∷ below)
    → IsNumberBefore (content_keys (Of_leaf es)) false key t → t ≤ length es → IsBetween (contents_in bucket) key below
    → IsSought (elements_in bucket) key (ahead_of (contents_in bucket) (record { content = Of_leaf es; taken = t } ∷ below))
sought bucket key es t u below stack place most between = ∥∥₁_elim stack (Prim.hlevel props) (λ s.
    sought_leaf (contents_in bucket) (63 - length below) (tour_pages_in bucket) key es t below s.1.0.placed place most between)

-- a branch has an element
pub branch_filled : (bucket : BucketView) (bs : List BranchElement) (t : ℕ) (below : List Frame)
    → HasStack bucket (record { content = Of_branch bs; taken = t } ∷ below) → 1 ≤ length bs
branch_filled bucket bs t below stack = ∥∥₁_elim stack (Prim.hlevel props) (λ s.
    let page = branch_page bucket.file bucket.meta s.0.trees s.1.0.good.0 (suc (length below)) bs s.1.0.good.1 s.1.0.good.2 in
    omega (arith, filled bucket.file bucket.meta s.0.trees s.1.0.good.0 (suc (length below)) page.view s.1.0.good.1 page.node, ap length page.branches))

-- the same facts, of a bucket and frames that are shown otherwise
pub moved_between : (old now : BucketView) (key : Key) (under below : List Frame) → now ≡ old → below ≡ under → IsBetween (contents_in old) key under
    → IsBetween (contents_in now) key below
moved_between old now key under below e g between = rw (e, g) between

pub moved_way : (old now : BucketView) (key : Key) (under below : List Frame) (a d : Content) → now ≡ old → below ≡ under → d ≡ a
    → IsOnWayDown old key under a → IsOnWayDown now key below d
moved_way old now key under below a d e g h way = rw (e, g, h) way

pub begins : (contents : Contents) (key : Key) → IsBetween contents key []
begins contents key = grind arith

-- what is no branch shows a leaf
pub shows_leaf : (page : TreePage) → ((branch : BranchPage) → page ≡ Branch branch → ⊥) → (es : List LeafElement) × (opened_content page ≡ Of_leaf es)
shows_leaf (Branch branch) h = absurd (h branch refl)
shows_leaf (Leaf leaf) h = (leaves_on leaf, refl)

-- The way down has come to a leaf, which is put on the stack.
pub record IsLanded (bucket : BucketView) (key : Key) (frames : List Frame) : Type 0 where
  pub stack : HasStack bucket frames
  pub near : IsNearTop bucket key frames
  pub sought : IsSought (elements_in bucket) key (ahead_of (contents_in bucket) frames)
  pub leaf : IsLeafTop frames

pub landed : (bucket : BucketView) (key : Key) (content : Content) (es : List LeafElement) (t : ℕ) (frames below : List Frame) → content ≡ Of_leaf es
    → frames ≡ record { content = content; taken = t } ∷ below
    → HasStack bucket (record { content = content; taken = 0 } ∷ below)
    → IsNumberBefore (content_keys content) false key t → t ≤ content_length content → t ≤ 65536 → IsBetween (contents_in bucket) key below
    → IsOnWayDown bucket key below content
    → IsLanded bucket key frames
landed bucket key content es t frames below e f stack place most fits between way = rw (f, e) (record {
  stack = retaken bucket (Of_leaf es) 0 t below (rw e at stack) (let m = rw e at most in omega (arith, m)) fits;
  near = way_ends bucket key below es t 0 (rw e at stack) (rw e at way);
  sought = sought bucket key es t 0 below (rw e at stack) (rw e at place) (rw e at most) between;
  leaf = tt;
})
