-- A joined listing is in the order of paths.
use Rattle.std.proofs.Common.{◌≡◌, ◌≢◌, ◌∙◌, inl, inr, ℕ, zero, suc, ◌<◌, ◌+◌, ◌*◌, ◌^◌, true, List, [], ◌∷◌, Some, length, refl, sym, ap, subst}
use Rattle.std.proofs.Common.{arith, slice_get}
use Rattle.bolt_recover.proofs.Words.{AreFound, contains_from_has, Each, found_tree, FoundBelow, inside_of, IsJoined, IsKeptPage, IsLoneLeaf}
use Rattle.bolt_recover.proofs.Words.{IsRecovered, joined_listing, Key, key_lt, LeafElement, leaves_of, LeavesRoom, lt_of_mul-lt-mul_right, map_has}
use Rattle.bolt_recover.proofs.Words.{Member, member_cmp, Meta, node_at, node_within, page_at, page_key, Rises, rises_append, rises_map, RisesBy}
use Rattle.bolt_recover.proofs.Words.{root_spot, tree_of_elements, Has, At_page, none-some, same_Some}
use Rattle.bolt_recover.proofs.{FoundAll.lost_or_none, FoundLemmas.found_here, FoundLemmas.found_leaf, SiteKeys.keyed, SiteSteps.keys_in}
use Rattle.bolt_recover.proofs.{JoinedLemmas.joined_between, JoinedLemmas.with_elements}
use Rattle.bolt_recover.proofs.{PageNames.digits_rise, TreeOrder.HasKey, TreeOrder.Ordered, TreeOrder.elements_ordered, TreeOrder.inside_ordered}

-- found pages with rising numbers
abbrev Page : Type 0
Page = ℕ × List LeafElement

has_page : (pages : List Page) (k : Key) → HasKey (found_tree pages) k → (p : Page) × Has pages p × (page_key p.0 ≡ k)
has_page [] k has = absurd has
has_page (p ∷ pages) k h = let later = has_page pages in grind (arith, later)

pages_ordered : (pages : List Page) → RisesBy (λ p q. p.0 < q.0) pages → Each (λ p. (p.0 < 10 ^ 16) × Ordered (tree_of_elements inside_of p.1)) pages
    → Ordered (found_tree pages)
pages_ordered [] rise good = tt
pages_ordered (p ∷ pages) (first, rise) good = (
  λ k has. let (q, there, is) = has_page pages k has in
      subst (λ (j : Key). key_lt (page_key p.0) j ≡ true) is (rw (digits_rise 16 p.0 q.0 (first q there) (good q (inr there)).0) refl),
  (good p (inl refl)).1,
  pages_ordered pages rise (λ q there. good q (inr there)),
)

module _ (file : List ℕ) (meta : Meta) where
  found_rise : (kept : ℕ → Type 0) (high_water : ℕ) (found : List ℕ) → FoundBelow file meta kept high_water found → RisesBy (λ n m. n < m) found
  found_rise kept zero found none = subst (RisesBy (λ n m. n < m)) (sym none) tt
  found_rise kept (suc high_water) found (before, below, inl (next, is)) =
      subst (RisesBy (λ n m. n < m)) (sym is)
      (rises_append (λ n m. n < m) before (high_water ∷ []) (found_rise kept high_water before below) (λ m none. absurd none, tt) (λ n m there last. elim last [
        | inl same ↦ subst (λ (k : ℕ). n < k) same (found_here file meta kept high_water before n below (contains_from_has before n there)).below
        | inr none ↦ absurd none
      ]))
  found_rise kept (suc high_water) found (before, below, inr (none, is)) = subst (RisesBy (λ n m. n < m)) (sym is) (found_rise kept high_water before below)

  -- the keys of an intact leaf rise
  key_get : (elements : List LeafElement) (i : ℕ) (key : Key) → slice_get (keys_in elements) i ≡ Some key
      → (e : LeafElement) × (slice_get elements i ≡ Some e) × (e.key ≡ key)
  key_get (x ∷ elements) (suc i) key e = key_get elements i key e
  key_get elements i key e = grind (arith, none-some, same_Some)

  leaf_ordered : (kept : ℕ → Type 0) (n : ℕ) → IsLoneLeaf (node_at file meta) kept n
      → Ordered (tree_of_elements inside_of (leaves_of (page_at file meta n)))
  leaf_ordered kept n lone =
      let elements = leaves_of (page_at file meta n) in
      let (keys, known) = keyed file meta kept (record { spot = At_page (root_spot n); path = []; elements = elements }) refl lone.passes in
      elements_ordered inside_of elements inside_ordered (λ i j a b lt at_a at_b.
      let (x, get_x, is_x) = key_get elements i a at_a in
      let (y, get_y, is_y) = key_get elements j b at_b in
      known.rise i j a b lt (known.own i x get_x ∙ ap Some is_x) (known.own j y get_y ∙ ap Some is_y))

  number_small : (kept : ℕ → Type 0) (n : ℕ) → length file < 10 ^ 16 * meta.page_size → IsLoneLeaf (node_at file meta) kept n → n < 10 ^ 16
  number_small kept n small lone =
      let within = (node_within file meta n lone.passes.node lone.passes.page).1 in
      let less : (n + lone.passes.node.overflow + 1) * meta.page_size < 10 ^ 16 * meta.page_size = omega (arith, within, small) in
      let all = lt_of_mul-lt-mul_right meta.page_size less in
      omega (arith, all)

  found_ordered : (found : List ℕ) → AreFound file meta found → length file < 10 ^ 16 * meta.page_size
      → Ordered (found_tree (with_elements file meta found))
  found_ordered found are small = elim (lost_or_none are.survey) [
    | inl none ↦ subst (λ (ns : List ℕ). Ordered (found_tree (with_elements file meta ns))) (sym (are.none none)) tt
    | inr (way, x, gone) ↦
        let below = are.some way x gone in
        let kept = IsKeptPage file meta are.survey in
        let pages : ℕ → Page = λ n. (n, leaves_of (page_at file meta n)) in
        pages_ordered (with_elements file meta found) (rises_map (λ p q. p.0 < q.0) pages found (found_rise kept meta.high_water found below)) (λ p has.
        let (n, there, is) = map_has pages found p has in
        let here =
        found_leaf file meta kept meta.high_water found n (found_here file meta kept meta.high_water found n below (contains_from_has found n there)) in
        subst (λ (q : Page). (q.0 < 10 ^ 16) × Ordered (tree_of_elements inside_of q.1)) is (number_small kept n small here, leaf_ordered kept n here))
  ]

  rises_with : (recovered : List Member) (found : List ℕ) → IsRecovered file meta recovered → AreFound file meta found
      → length file < 10 ^ 16 * meta.page_size → LeavesRoom file meta
      → Rises member_cmp (joined_listing recovered (with_elements file meta found))
  rises_with recovered [] is are small room = is.rises
  rises_with recovered (n ∷ found) is are small room =
      let some : (n ∷ found) ≢ [] = λ e. cc in
      joined_between file meta recovered _ (with_elements file meta found) is (room recovered (n ∷ found) is are some) (found_ordered (n ∷ found) are small)

  pub joined_rises : (listing : List Member) → IsJoined file meta listing → length file < 10 ^ 16 * meta.page_size → LeavesRoom file meta
      → Rises member_cmp listing
  joined_rises listing is small room = subst (Rises member_cmp) (sym is.joined) (rises_with is.recovered is.found is.recovers is.are_found small room)
