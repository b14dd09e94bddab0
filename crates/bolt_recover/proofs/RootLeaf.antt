-- A leaf as the root page: what is recovered has its elements in the root bucket.
use Rattle.std.proofs.Common.{◌≡◌, ◌≢◌, ◌∙◌, ◌⊎◌, ℕ, inl, inr, true, false, List, [], ◌∷◌, map, Option, Some, None, Ok, refl, sym, ap, subst, arith}
use Rattle.std.proofs.Common.{cond}
use Rattle.std.specs.List.{count_by}
use Rattle.bolt_format.specs.Pages.{PageView}
use Rattle.bolt_recover.proofs.Words.{At_page, Contains, contains_cases, contains_head, contains_none, Finding, Gives, Has, IsClaimedIn, IsMetaPage}
use Rattle.bolt_recover.proofs.Words.{IsRecovered, IsSurvey, item_of, KeepsRoot, LeafElement, leaf_entry, leaves_of, Member, Meta, Node, node_at}
use Rattle.bolt_recover.proofs.Words.{page_at, passes_fewer, reached, root_site, root_spot, same_Some, Site, site_at, follow_sites, step_site, Spot}
use Rattle.bolt_recover.proofs.Words.{sum_by-cons, SurveyedWay, way_kept}
use Rattle.bolt_check.proofs.Exports.{node_shown}
use Rattle.bolt_check.specs.ShownNodes.{shown_node}
use Rattle.bolt_format.specs.{TreePages.leaves_on, TreePages.shown_page, declared.tree_page.LeafPage.LeafPage}
use Rattle.bolt_format.specs.{declared.tree_page.TreePage.TheVariants.Leaf}
use Rattle.bolt_recover.proofs.{Existing.has_recovered, SurveyIsOne.gives_one}
use Rattle.bolt_recover.specs.States.{HasBucketsAlone, is_root_value, root_buckets}

-- a value of the root bucket is counted
pub value_counted : (l : List Member) (m : Member) → Contains l m → is_root_value m ≡ true → count_by is_root_value l ≢ 0
value_counted [] m has is = absurd (contains_none m has)
value_counted (x ∷ l) m has is = λ none.
    let sum = sum_by-cons (λ (y : Member). cond (is_root_value y) 1 0) x l in
    elim (contains_cases x m l has) [
      | inl same ↦
          let one : cond {A = ℕ} (is_root_value x) 1 0 ≡ 1 = ap (λ b. cond b 1 0) (ap is_root_value same ∙ is) in
          omega (arith, sum, one, none)
      | inr later ↦ value_counted l m later is (omega (arith, sum, none))
    ]

module _ (file : List ℕ) (meta : Meta) where
  pub only_metas : (survey : List SurveyedWay) (n : ℕ) → IsClaimedIn (node_at file meta) (reached (node_at file meta) meta.root) survey [] n
      → IsMetaPage n
  only_metas survey n h = grind arith

  -- the empty way is kept
  root_kept : KeepsRoot file meta → (survey : List SurveyedWay) → IsSurvey file meta survey → Has survey (way_kept [])
  root_kept keeps survey is =
      let (found, has) = is.all [] (At_page (root_spot meta.root)) (inl refl) refl in
      let (spot, led, gives) = (is.only (record { way = []; found = found }) has).1 in
      let before = IsClaimedIn (node_at file meta) (reached (node_at file meta) meta.root) survey [] in
      let same : At_page (root_spot meta.root) ≡ spot = same_Some _ _ led in
      let passes = passes_fewer (node_at file meta) IsMetaPage before (At_page (root_spot meta.root)) (λ n h. only_metas survey n h) keeps in
      let none =
      gives_one (node_at file meta) before (At_page (root_spot meta.root)) found None
      (subst (λ (s : Spot). Gives (node_at file meta) before s found) (sym same) gives) passes in
      subst (λ (f : Option Finding). Has survey (record { way = []; found = f })) none has

  -- an element of the root page is a member
  pub element_there : KeepsRoot file meta → (l : List Member) → IsRecovered file meta l → (e : LeafElement)
      → Contains (leaves_of (page_at file meta meta.root)) e
      → Contains l (e.key ∷ [], item_of e)
  element_there keeps l is e has = (is.exact (e.key ∷ []) (item_of e)).1 (record {
    way = [];
    site = root_site file meta;
    element = e;
    keeps = root_kept keeps is.survey is.surveys;
    leads = refl;
    has = has;
    named = refl;
    is = refl;
  })

  -- a leaf without elements
  nowhere : (way : List ℕ) (p : Site) → follow_sites file meta None way ≡ Some p → ⊥
  nowhere [] p e = grind (arith, e)
  nowhere (i ∷ way) p e = nowhere way p e

  no_step : (node : Node) (i : ℕ) → node_at file meta meta.root ≡ Ok node → node.entries ≡ [] → step_site file meta (root_site file meta) i ≡ None
  no_step node i page none = rw (page, none) refl

  pub no_members : (node : Node) → node_at file meta meta.root ≡ Ok node → node.entries ≡ [] → leaves_of (page_at file meta meta.root) ≡ []
      → (l : List Member) → IsRecovered file meta l
      → (m : Member) → Contains l m → ⊥
  no_members node page none bare l is m has =
      let r = (is.exact m.0 m.1).0 has in
      none_at r.way r.site r.element r.leads r.has
    where
      none_at : (way : List ℕ) (site : Site) (e : LeafElement) → site_at file meta way ≡ Some site → Contains site.elements e → ⊥
      none_at [] site e led has =
          contains_none e (subst (λ (es : List LeafElement). Contains es e) (ap (λ (s : Site). s.elements) (sym (same_Some _ _ led)) ∙ bare) has)
      none_at (i ∷ way) site e led has = nowhere way site (ap (λ (o : Option Site). follow_sites file meta o way) (sym (no_step node i page none)) ∙ led)

  -- a leaf that has no element or a value
  pub not_root : (leaf : LeafPage) (view : PageView) → page_at file meta meta.root ≡ Some view → shown_page (Leaf leaf) ≡ view
      → (leaves_on leaf ≡ []) ⊎ ((e : LeafElement) × Contains (leaves_on leaf) e × (e.is_bucket ≡ false)) → HasBucketsAlone file meta → ⊥
  unfolding shown_node
  not_root leaf view at is (inl none) (keeps, has) =
      let (l, recovers) = has_recovered file meta in
      let leaves : leaves_of (page_at file meta meta.root) ≡ leaves_on leaf = ap leaves_of at ∙ ap (λ (v : PageView). v.leaves) (sym is) in
      let node = node_shown file meta meta.root view (Leaf leaf) at is in
      empty l (no_members (shown_node (Leaf leaf)) node (ap (map leaf_entry) none) (leaves ∙ none) l recovers) (has l recovers).0
    where
      empty : (l : List Member) → ((m : Member) → Contains l m → ⊥) → root_buckets l ≢ [] → ⊥
      empty [] none some = some refl
      empty (m ∷ l) none some = none m (contains_head m l)
  not_root leaf view at is (inr (e, there, value)) (keeps, has) =
      let (l, recovers) = has_recovered file meta in
      let leaves : leaves_of (page_at file meta meta.root) ≡ leaves_on leaf = ap leaves_of at ∙ ap (λ (v : PageView). v.leaves) (sym is) in
      let member = element_there keeps l recovers e (subst (λ (es : List LeafElement). Contains es e) (sym leaves) there) in
      value_counted l (e.key ∷ [], item_of e) member (value_shown e value) (has l recovers).1
    where
      value_shown : (e : LeafElement) → e.is_bucket ≡ false → is_root_value (e.key ∷ [], item_of e) ≡ true
      value_shown e value = grind arith
