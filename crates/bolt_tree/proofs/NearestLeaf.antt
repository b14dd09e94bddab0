-- For each key there is one nearest leaf.
use Rattle.std.proofs.Common.{◌≡◌, ℕ, zero, suc, ◌+◌, ◌≤◌, ◌⊎◌, inl, inr, List, [], ◌∷◌, Some, slice_get, length, refl, sym, ap, ◌∙◌, subst, arith}
use Rattle.std.proofs.Common.{false, true}
use Rattle.bolt_tree.proofs.Words.{BranchElement, HasSoundTrees, Inline_page, IsAddress, IsNear, IsNearFrom, IsNearest, IsOnWay, IsStart, Key, Meta}
use Rattle.bolt_tree.proofs.Words.{PageView, Root_page, Start, cases_Bool, key_lt, leads, leads_child, node_at, none-some, on_child, one_some}
use Rattle.bolt_tree.proofs.Words.{page_at, shallow}
use Rattle.bolt_tree.proofs.{TourLemmas.filled, TourLemmas.not_deepest, WayPages.a_branch, WayPages.a_leaf, WayPages.on_way_page}

same_nearest : (bs : List BranchElement) (key : Key) (i j : ℕ) (a b : BranchElement) → IsNearest bs key i → IsNearest bs key j
    → slice_get bs i ≡ Some a → slice_get bs j ≡ Some b → i ≡ j
same_nearest bs key i j a b h k g q = grind arith

one_near_from : (file : List ℕ) (meta : Meta) (number : ℕ) (key : Key) (a b : List ℕ) → IsNearFrom file meta number key a
    → IsNearFrom file meta number key b → a ≡ b
one_near_from file meta number key [] [] h k = refl
one_near_from file meta number key [] (j ∷ b) h k = grind arith
one_near_from file meta number key (i ∷ a) [] h k = grind arith
one_near_from file meta number key (i ∷ a) (j ∷ b) h k =
    let same : k.0 ≡ h.0 = one_some (page_at file meta number) k.0 h.0 k.2 h.2 in
    let bs = ap (λ (v : PageView). v.branches) same in
    let nearest : IsNearest h.0.branches key j = subst (λ (es : List BranchElement). IsNearest es key j) bs k.4 in
    let got : slice_get h.0.branches j ≡ Some k.1 = ap (λ (es : List BranchElement). slice_get es j) (sym bs) ∙ k.5 in
    let step : i ≡ j = same_nearest h.0.branches key i j h.1 k.1 h.4 nearest h.5 got in
    let child : h.1 ≡ k.1 = one_some (slice_get h.0.branches j) h.1 k.1 (ap (slice_get h.0.branches) (sym step) ∙ h.5) got in
    let there : IsNearFrom file meta h.1.child key b = subst (λ (e : BranchElement). IsNearFrom file meta e.child key b) (sym child) k.6 in
    let rest = one_near_from file meta h.1.child key a b h.6 there in
    cc

pub one_near : (file : List ℕ) (meta : Meta) (start : Start) (key : Key) (a b : List ℕ) → IsNear file meta start key a → IsNear file meta start key b
    → a ≡ b
one_near file meta start key a b h k = grind (arith, one_near_from)

-- every element from here on has a key above this one
abbrev AreAbove : Key → ℕ → List BranchElement → Type 0
AreAbove key i elements = (j : ℕ) (f : BranchElement) → i ≤ j → slice_get elements j ≡ Some f → key_lt key f.key ≡ true

above_later : (key : Key) (i : ℕ) (x : BranchElement) (elements : List BranchElement) → AreAbove key i elements → AreAbove key (suc i) (x ∷ elements)
above_later key i x elements above h f l g = grind arith

above_all : (key : Key) (x : BranchElement) (elements : List BranchElement) → key_lt key x.key ≡ true → AreAbove key 0 elements
    → AreAbove key 0 (x ∷ elements)
above_all key x elements e above h f l g = grind arith

-- the last element that is not above the key, or all are above it
last_below : (key : Key) (elements : List BranchElement)
    → ((i : ℕ) × (e : BranchElement) × (slice_get elements i ≡ Some e) × (key_lt key e.key ≡ false) × AreAbove key (suc i) elements) ⊎ AreAbove key 0 elements
last_below key [] = inr (λ j f l g. absurd (none-some f g))
last_below key (x ∷ elements) = elim (last_below key elements) [
  | inl (i, e, g, t, above) ↦ inl (suc i, e, g, t, above_later key (suc i) x elements above)
  | inr above ↦
      elim (cases_Bool (key_lt key x.key)) [
        | inl over ↦ inr (above_all key x elements over above)
        | inr not_over ↦ inl (0, x, refl, not_over, above_later key 0 x elements above)
      ]
]

nearest_exists : (key : Key) (elements : List BranchElement) → 1 ≤ length elements
    → (i : ℕ) × (e : BranchElement) × (slice_get elements i ≡ Some e) × IsNearest elements key i
nearest_exists key [] h = absurd (omega arith)
nearest_exists key (x ∷ elements) h = elim (last_below key (x ∷ elements)) [
  | inl (i, e, g, t, above) ↦ (i, e, g, inl (e, g, t, λ j f l k. above j f (omega arith) k))
  | inr above ↦ (0, x, refl, inr (refl, λ j f k. above j f (omega arith) k))
]

-- The way down from a page ends.
near_exists_from : (file : List ℕ) (meta : Meta) (trees : HasSoundTrees file meta) (n number depth : ℕ) (key : Key) → IsOnWay file meta number depth
    → 64 ≤ depth + n
    → (near : List ℕ) × (page : ℕ) × IsNearFrom file meta number key near × (leads (node_at file meta) (Some number) near ≡ Some page)
    × (depth + length near ≤ 64)
near_exists_from file meta trees zero number depth key on deep = elim (on_way_page file meta trees number depth on) [
  | a_leaf view at is node content ↦ (let d = shallow file meta trees number depth on in ([], number, (view, at, is), refl, omega (arith, d)))
  | a_branch view at is node content ↦ (let d = not_deepest file meta trees number depth view on node in absurd (omega (arith, d, deep)))
]
near_exists_from file meta trees (suc n) number depth key on deep = elim (on_way_page file meta trees number depth on) [
  | a_leaf view at is node content ↦ (let d = shallow file meta trees number depth on in ([], number, (view, at, is), refl, omega (arith, d)))
  | a_branch view at is node content ↦ (
      let i = nearest_exists key view.branches (filled file meta trees number depth view on node) in
      let r = near_exists_from file meta trees n i.1.child (suc depth) key (on_child file meta number depth i.0 view i.1 on node i.2) (omega arith) in
      (i.0 ∷ r.0, r.1, (view, i.1, at, is, i.3, i.2, r.2), leads_child file meta number i.0 view i.1 r.0 node i.2 ∙ r.3, omega (arith, r.4)))
]

pub near_exists : (file : List ℕ) (meta : Meta) (trees : HasSoundTrees file meta) (start : Start) (key : Key) → IsStart file meta start
    → (near : List ℕ) × IsNear file meta start key near × IsAddress file meta start near × (1 + length near ≤ 64)
near_exists file meta trees (Root_page number) key is = grind (arith, near_exists_from file meta trees 63 number 1 key is (omega arith))
near_exists file meta trees (Inline_page page) key is = ([], refl, refl, omega arith)
