-- The way to the first leaf of the root bucket: what was kept on it.
use Rattle.std.proofs.Common.{◌≡◌, ◌∙◌, ◌⊎◌, ◌≤◌, ◌+◌, ◌++◌, inl, inr, ℕ, true, false, List, [], ◌∷◌, Option, Some, None, Ok, refl, sym, ap, subst}
use Rattle.std.proofs.Common.{arith}
use Rattle.bolt_check.specs.{Findings.PagePasses, Ways.PageSpot, Ways.SpanOf}
use Rattle.bolt_format.specs.{TreePages.shown_page, declared.tree_page.LeafPage.LeafPage, declared.tree_page.TreePage.TheVariants.Leaf}
use Rattle.bolt_format.specs.{declared.tree_page.TreePage.TheVariants.Branch, declared.tree_page.BranchPage.BranchPage}
use Rattle.bolt_recover.proofs.Words.{At_page, Before, Contains, Finding, Gives, Has, IsClaimedIn, IsMetaPage, IsSurvey, item_of, LeafElement}
use Rattle.bolt_recover.proofs.Words.{leaves_of, Meta, node_at, page_at, reached, same_Some, site_at, SpanAt, SpanHas, Spot, SurveyedWay, way_kept}
use Rattle.bolt_recover.proofs.{Existing.has_recovered, RootLeaf.value_counted, SiteFacts.site_further, SiteFacts.spot_is, SurveyIsOne.gives_one}
use Rattle.bolt_check.specs.{ShownNodes.shown_node, ShownSpots.page_spot, declared.spot.PageSpot.PageSpot as CodePageSpot}
use Rattle.bolt_check.specs.declared.spot.Spot.TheVariants as spots
use Rattle.bolt_format.specs.declared.tree_page.TreePage.{TreePage}
use Rattle.bolt_recover.specs.{Private.Frames.ElementLeads, Sites.step_site}
use Rattle.bolt_recover.specs.{Private.FirstWays.IsFirstChild, Private.FirstWays.IsFirstWay, Private.FirstWays.IsInHull, Private.FirstWays.IsLeafLook}
use Rattle.bolt_recover.specs.{Private.FirstWays.LeadsFirst, Private.FirstWays.Says, States.HasBucketsAlone, States.is_root_value}
use Rattle.bolt_recover.specs.{declared.first_leaf.FirstWay.FirstWay, declared.first_leaf.Hull.Hull, declared.first_leaf.Look.Look}
use Rattle.bolt_recover.specs.declared.first_leaf.Look.TheVariants.{Next, Unknown, Value}

-- what comes before the first child of a way is the way itself, or comes before it
before_first : (v way : List ℕ) → Before v (way ++ 0 ∷ []) → Before v way ⊎ (v ≡ way)
before_first [] [] lt = inr refl
before_first (i ∷ v) [] (inl lt) = absurd (omega (arith, lt))
before_first (i ∷ v) [] (inr (same, lt)) = absurd lt
before_first [] (j ∷ way) lt = inl tt
before_first (i ∷ v) (j ∷ way) (inl lt) = inl (inl lt)
before_first (i ∷ v) (j ∷ way) (inr (same, lt)) =
    elim (before_first v way lt) [ inl earlier ↦ inl (inr (same, earlier)) | inr is ↦ inr (ap (λ w. i ∷ w) is ∙ ap (λ k. k ∷ way) same) ]

value_shown : (e : LeafElement) → e.is_bucket ≡ false → is_root_value (e.key ∷ [], item_of e) ≡ true
value_shown e value = grind arith

module _ (file : List ℕ) (meta : Meta) (way : List ℕ) (spot : PageSpot) (hull : Hull) (is : LeadsFirst file meta way spot hull) where
  leads : reached (node_at file meta) meta.root way ≡ Some (At_page spot)
  leads = spot_is file meta way _ is.site

  -- a page that passes the tests and lies apart is kept
  pub first_kept : PagePasses (node_at file meta) (λ n. ⊥) spot
      → ((n : ℕ) → SpanAt (node_at file meta) (At_page spot) n → (IsMetaPage n → ⊥) × (IsInHull hull n → ⊥))
      → (survey : List SurveyedWay) → IsSurvey file meta survey → Has survey (way_kept way)
  first_kept passes apart survey surveys =
      let before = IsClaimedIn (node_at file meta) (reached (node_at file meta) meta.root) survey way in
      let (found, has) = surveys.all way (At_page spot) (is.opened survey surveys) leads in
      let (at, led, gives) = (surveys.only (record { way = way; found = found }) has).1 in
      let same : At_page spot ≡ at = same_Some _ _ (sym leads ∙ led) in
      let fresh : PagePasses (node_at file meta) before spot = record {
        node = passes.node;
        early = passes.early;
        page = passes.page;
        free = λ n span was. free n (subst (λ r. SpanOf r spot.number n) (sym passes.page) span) (is.claimed survey surveys n was);
        content = passes.content;
      } in
      let none =
      gives_one (node_at file meta) before (At_page spot) found None (subst (λ (s : Spot). Gives (node_at file meta) before s found) (sym same) gives) fresh in
      subst (λ (f : Option Finding). Has survey (record { way = way; found = f })) none has
    where
      free : (n : ℕ) → SpanAt (node_at file meta) (At_page spot) n → IsMetaPage n ⊎ IsInHull hull n → ⊥
      free n span (inl first) = (apart n span).0 first
      free n span (inr in_hull) = (apart n span).1 in_hull

  -- so a value of its leaf is one of the root bucket
  pub first_value : ((survey : List SurveyedWay) → IsSurvey file meta survey → Has survey (way_kept way)) → (e : LeafElement)
      → Contains (leaves_of (page_at file meta spot.number)) e
      → e.is_bucket ≡ false → HasBucketsAlone file meta → ⊥
  first_value kept e has value (keeps, alone) =
      let (l, recovers) = has_recovered file meta in
      let member : Contains l (e.key ∷ [], item_of e) = (recovers.exact (e.key ∷ []) (item_of e)).1 (record {
        way = way;
        site = record { spot = At_page spot; path = []; elements = leaves_of (page_at file meta spot.number) };
        element = e;
        keeps = kept recovers.survey recovers.surveys;
        leads = is.site;
        has = has;
        named = refl;
        is = refl;
      }) in
      value_counted l (e.key ∷ [], item_of e) member (value_shown e value) (alone l recovers).1

  -- and the way goes on to its first child
  pub first_next : ((survey : List SurveyedWay) → IsSurvey file meta survey → Has survey (way_kept way)) → (next : PageSpot) (more : Hull)
      → site_at file meta (way ++ 0 ∷ []) ≡ Some (record { spot = At_page next; path = []; elements = leaves_of (page_at file meta next.number) })
      → ((n : ℕ) → IsInHull hull n → IsInHull more n) → ((n : ℕ) → SpanAt (node_at file meta) (At_page spot) n → IsInHull more n)
      → LeadsFirst file meta (way ++ 0 ∷ []) next more
  first_next kept next more site old new = record {
    site = site;
    opened = λ survey surveys. inr (way, 0, refl, kept survey surveys);
    claimed = claimed_on;
  }
    where
      claimed_on : (survey : List SurveyedWay) → IsSurvey file meta survey → (n : ℕ)
          → IsClaimedIn (node_at file meta) (reached (node_at file meta) meta.root) survey (way ++ 0 ∷ []) n
          → IsMetaPage n ⊎ IsInHull more n
      claimed_on survey surveys n (inl first) = inl first
      claimed_on survey surveys n (inr (v, (has, lt, span))) = elim (before_first v way lt) [
        | inl earlier ↦ elim (is.claimed survey surveys n (inr (v, (has, earlier, span)))) [ inl first ↦ inl first | inr in_hull ↦ inr (old n in_hull) ]
        | inr same ↦ inr (new n (subst (λ (o : Option Spot). SpanHas (node_at file meta) o n) (ap (reached (node_at file meta) meta.root) same ∙ leads) span))
      ]

-- ---- as the code has them

pub span_of_page : (file : List ℕ) (meta : Meta) (number : ℕ) (page : TreePage) (n : ℕ) → node_at file meta number ≡ Ok (shown_node page)
    → SpanOf (node_at file meta number) number n
    → (number ≤ n) × (n ≤ number + (shown_page page).overflow)
unfolding shown_node
span_of_page file meta number page n is span = subst (λ r. SpanOf r number n) is span

pub child_site_of : (file : List ℕ) (meta : Meta) (way : List ℕ) (spot next : CodePageSpot) (page : BranchPage)
    → site_at file meta way ≡ Some (record { spot = At_page (page_spot spot); path = []; elements = leaves_of (page_at file meta spot.number) })
    → node_at file meta spot.number ≡ Ok (shown_node (Branch page)) → page_at file meta spot.number ≡ Some (shown_page (Branch page)) → spot.depth ≤ 64
    → ElementLeads (record { spot = spots.Page spot; page = Branch page }) 0 (Some (spots.Page next))
    → site_at file meta (way ++ 0 ∷ []) ≡ Some (record { spot = At_page (page_spot next); path = []; elements = leaves_of (page_at file meta next.number) })
child_site_of file meta way spot next page site node at shallow leads =
    site_further file meta way 0 _ site
    ∙ ap (λ es. step_site file meta (record { spot = At_page (page_spot spot); path = []; elements = es }) 0) (ap leaves_of at)
    ∙ leads file meta [] (node, at, shallow)

-- a page that was looked at is kept
pub look_kept : (file : List ℕ) (meta : Meta) (way : List ℕ) (spot : CodePageSpot) (hull : Hull) (page : TreePage) (last : ℕ)
    → LeadsFirst file meta way (page_spot spot) hull
    → PagePasses (node_at file meta) (λ n. ⊥) (page_spot spot) → node_at file meta spot.number ≡ Ok (shown_node page) → 2 ≤ spot.number
    → last ≡ spot.number + (shown_page page).overflow
    → ((n : ℕ) → spot.number ≤ n → n ≤ last → IsInHull hull n → ⊥) → (survey : List SurveyedWay) → IsSurvey file meta survey → Has survey (way_kept way)
look_kept file meta way spot hull page last is passes node high same apart = first_kept file meta way (page_spot spot) hull is passes (λ n span.
    let (low, up) = span_of_page file meta spot.number page n node span in
    (λ first. omega (arith, low, first, high), apart n low (omega (arith, up, same))))

pub leaf_says : (file : List ℕ) (meta : Meta) (way : List ℕ) (at : FirstWay) (leaf : LeafPage) (look : Look) → IsFirstWay file meta way at
    → page_at file meta at.spot.number ≡ Some (shown_page (Leaf leaf))
    → ((survey : List SurveyedWay) → IsSurvey file meta survey → Has survey (way_kept way)) → IsLeafLook leaf look
    → Says file meta way look
leaf_says file meta way at leaf Value is page kept (e, has, value) =
    first_value file meta way (page_spot at.spot) at.hull is kept e (subst (λ (es : List LeafElement). Contains es e) (sym (ap leaves_of page)) has) value
leaf_says file meta way at leaf (Next next) is page kept says = absurd says
leaf_says file meta way at leaf Unknown is page kept says = tt

pub branch_says : (file : List ℕ) (meta : Meta) (way : List ℕ) (at : FirstWay) (page : BranchPage) (last : ℕ) (hull : Hull) (look : Look)
    → IsFirstWay file meta way at
    → page_at file meta at.spot.number ≡ Some (shown_page (Branch page)) → node_at file meta at.spot.number ≡ Ok (shown_node (Branch page)) → at.spot.depth ≤ 64
    → ((survey : List SurveyedWay) → IsSurvey file meta survey → Has survey (way_kept way)) → last ≡ at.spot.number + (shown_page (Branch page)).overflow
    → ((n : ℕ) → IsInHull at.hull n → IsInHull hull n) → ((n : ℕ) → at.spot.number ≤ n → n ≤ last → IsInHull hull n)
    → IsFirstChild at.spot (Branch page) hull look → Says file meta way look
branch_says file meta way at page last hull Value is shown node shallow kept same old new says = absurd says
branch_says file meta way at page last hull (Next next) is shown node shallow kept same old new (leads, with) =
    subst (λ h. LeadsFirst file meta (way ++ 0 ∷ []) (page_spot next.spot) h) (sym with)
    (first_next file meta way (page_spot at.spot) at.hull is kept (page_spot next.spot) hull
    (child_site_of file meta way at.spot next.spot page is.site node shown shallow leads) old (λ n span.
    let (low, up) = span_of_page file meta at.spot.number (Branch page) n node span in new n low (omega (arith, up, same))))
branch_says file meta way at page last hull Unknown is shown node shallow kept same old new says = tt
