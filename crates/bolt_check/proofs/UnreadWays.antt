-- The spots that are still to be read, as ways: the first number of a way picks the spot. What is found along all ways is what is found at a
-- spot, and then along the ways of what is left.
use Rattle.std.proofs.Common.{◌≡◌, ◌∙◌, ℕ, suc, ◌&&◌, ◌⊎◌, inl, inr, Bool, true, false, List, [], ◌∷◌, ◌++◌, Option, Some, None, Ok, ap, ap₂}
use Rattle.std.proofs.Common.{flat_map, map, not, refl, sym, slice_get, arith}
use Rattle.std.specs.Prelude.{is_some}
use Rattle.std.proofs.Math.Bool.{and-true}
use Rattle.bolt_check.proofs.Words.{InlinePage, At_inline, At_page, Entry, Finding, follow, forest, Has, IsTour, kids, Node, Nodes, option_map}
use Rattle.bolt_check.proofs.Words.{PageSpot, places, Reach, root_spot, somes, Spot, step, step_entry}
use Rattle.bolt_check.proofs.Forest.{flat, follow_none, forest_empty, inline_visits, kids_step, lift, nothing_is, page_visits, root_visits, tail, up}
use Rattle.bolt_check.proofs.Forest.{way_of, where_is}
use Rattle.bolt_check.proofs.{TourLemmas.Ways, TourLemmas.tour_map, TourLemmas.tour_step, Visiting.Visits, WayFacts.leads_none}
use Rattle.bolt_check.proofs.{LeafDepths.leaves_along, LeafDepths.leaves_same}
use Rattle.bolt_check.specs.BboltFindings.{AreBboltFindings, spot_findings, way_findings}
use Rattle.bolt_check.specs.{Shape.child_at, Shape.child_of, Shape.leads, Ways.reached}
use Rattle.bolt_check.specs.Private.Unread.{Unread, tagged, own_findings, page_leaves, unread_kids}

abbrev pub spots_in : List Unread → List Spot
spots_in unread = map (λ (u : Unread). u.spot) unread

-- whether a way from here stays in its bucket
abbrev pub stays : Nodes → Spot → List ℕ → Bool
stays nodes (At_page s) way = is_some (leads nodes (Some s.number) way)
stays nodes (At_inline host inner) way = false

-- what is found at the end of a way from one of the spots
abbrev pub findings_from : Nodes → Option Unread → List ℕ → List Finding
findings_from nodes None way = []
findings_from nodes (Some u) way =
    spot_findings nodes (u.in_root && stays nodes u.spot way) (leaves_along nodes u.above (Some u.spot) way) (follow nodes (Some u.spot) way)

abbrev pub forest_findings : Nodes → List Unread → List ℕ → List Finding
forest_findings nodes unread [] = []
forest_findings nodes unread (k ∷ way) = findings_from nodes (slice_get unread k) way

-- all that is found along the ways, in their order, if that is what is found at the end of each
pub record AreAlong (reach : Reach) (at : List ℕ → List Finding) (found : List Finding) : Type 0 where
  pub tour : List (List ℕ)
  pub whole : IsTour reach tour
  pub all : found ≡ flat_map at tour

-- ---- what is found at the same ends is the same

flat_along : (f : List ℕ → List ℕ) (g h : List ℕ → List Finding) (ways : Ways) → ((way : List ℕ) → Has ways way → g (f way) ≡ h way)
    → flat_map g (map f ways) ≡ flat_map h ways
flat_along f g h [] same = refl
flat_along f g h (w ∷ ways) same = ap₂ (λ (a b : List Finding). a ++ b) (same w (inl refl)) (flat_along f g h ways (λ x i. same x (inr i)))

module _ {old new : Reach} {o : Option Spot} {first : List ℕ} {f : List ℕ → List ℕ} (v : Visits old new o first f)
    (at_old at_new : List ℕ → List Finding) (same : (b : List ℕ) (t : Spot) → new b ≡ Some t → at_old (f b) ≡ at_new b) where
  moved : (tour : Ways) → IsTour new tour → flat_map at_old (map f tour) ≡ flat_map at_new tour
  moved tour is = flat_along f at_old at_new tour (λ way i. let p = is.only way i in same way p.0 p.1)

  -- after a visit
  along_visit : (s : Spot) → o ≡ Some s → (found : List Finding) → AreAlong new at_new found → AreAlong old at_old (at_old first ++ found)
  along_visit s e found along = record {
    tour = first ∷ map f along.tour;
    whole = tour_step v along.tour along.whole s e;
    all = ap (λ (fs : List Finding). at_old first ++ fs) (along.all ∙ sym (moved along.tour along.whole));
  }

  -- the same ways
  along_same : o ≡ None → (found : List Finding) → AreAlong new at_new found → AreAlong old at_old found
  along_same none found along = record {
    tour = map f along.tour;
    whole = tour_map v along.tour along.whole none;
    all = along.all ∙ sym (moved along.tour along.whole);
  }

-- ---- a page

-- what a spot leads to, and then the rest
pub spots_kids : (in_root : Bool) (leaves : ℕ) (rest : List Unread) (ks : List Spot)
    → spots_in (map (tagged in_root leaves) ks ++ rest) ≡ ks ++ spots_in rest
spots_kids in_root leaves rest [] = refl
spots_kids in_root leaves rest (k ∷ ks) = ap (λ (l : List Spot). k ∷ l) (spots_kids in_root leaves rest ks)

module _ (nodes : Nodes) (s : PageSpot) (in_root : Bool) (leaves : ℕ) where
  -- a bucket on a leaf isn't in the root bucket
  leaf_kid : (o : Option Spot) (way : List ℕ)
      → spot_findings nodes (in_root && is_some (leads nodes None way)) (leaves_along nodes leaves o way) (follow nodes o way)
      ≡ findings_from nodes (option_map (tagged (in_root && false) leaves) o) way
  leaf_kid o way = grind (arith, follow_none, leads_none)

  -- a child of a branch is in the bucket of the branch
  entry_kid : (is_leaf : Bool) (e next : Option Entry) (way : List ℕ)
      → spot_findings nodes (in_root && is_some (leads nodes (child_of is_leaf e) way)) (leaves_along nodes leaves (step_entry is_leaf s e next) way)
      (follow nodes (step_entry is_leaf s e next) way)
      ≡ findings_from nodes (option_map (tagged (in_root && not is_leaf) leaves) (step_entry is_leaf s e next)) way
  entry_kid is_leaf e next way = grind (arith, follow_none, and-true, leaf_kid)

module _ (nodes : Nodes) (s : PageSpot) (in_root : Bool) (above : ℕ) (rest : List Unread) (node : Node) (page : nodes s.number ≡ Ok node) where
  abbrev below : Bool
  below = in_root && not node.is_leaf

  abbrev leaves : ℕ
  leaves = page_leaves nodes above s

  abbrev os : List (Option Spot)
  os = places node.is_leaf s node.entries

  abbrev here : Unread
  here = tagged in_root above (At_page s)

  -- the k-th of what is left after the visit: at which place of the page, or which of the rest
  abbrev place_of : List (Option Spot) → ℕ ⊎ ℕ → Option Unread
  place_of ps (inl j) = option_map (tagged below leaves) (flat (slice_get ps j))
  place_of ps (inr k) = slice_get rest k

  place_up : (o : Option Spot) (ps : List (Option Spot)) (x : ℕ ⊎ ℕ) → place_of (o ∷ ps) (up x) ≡ place_of ps x
  place_up o ps x = grind arith

  place_same : (ps : List (Option Spot)) (k : ℕ) → place_of ps (where_is ps k) ≡ slice_get (map (tagged below leaves) (somes ps) ++ rest) k
  place_same (None ∷ ps) k = place_up None ps (where_is ps k) ∙ place_same ps k
  place_same (Some t ∷ ps) (suc k) = place_up (Some t) ps (where_is ps k) ∙ place_same ps k
  place_same ps k = grind arith

  kid_findings : (j : ℕ) (way : List ℕ)
      → spot_findings nodes (in_root && is_some (leads nodes (child_at nodes (Some s.number) j) way))
      (leaves_along nodes leaves (step nodes (Some (At_page s)) j) way)
      (follow nodes (step nodes (Some (At_page s)) j) way)
      ≡ findings_from nodes (option_map (tagged below leaves) (step nodes (Some (At_page s)) j)) way
  kid_findings j way = rw page (entry_kid nodes s in_root leaves node.is_leaf (slice_get node.entries j) (slice_get node.entries (suc j)) way)

  findings_at : (x : ℕ ⊎ ℕ) (way : List ℕ) → forest_findings nodes (here ∷ rest) (way_of x way) ≡ findings_from nodes (place_of os x) way
  findings_at x way = grind (arith, kid_findings, kids_step)

  page_same : (b : List ℕ) → forest_findings nodes (here ∷ rest) (lift os b) ≡ forest_findings nodes (map (tagged below leaves) (somes os) ++ rest) b
  page_same [] = refl
  page_same (k ∷ way) = findings_at (where_is os k) way ∙ ap (λ (o : Option Unread). findings_from nodes o way) (place_same os k)

  own_first : forest_findings nodes (here ∷ rest) (0 ∷ []) ≡ own_findings nodes here
  own_first = ap (λ (b : Bool). spot_findings nodes b leaves (Some (At_page s))) (and-true in_root)

  page_along : (found : List Finding)
      → AreAlong (forest nodes (spots_in (map (tagged below leaves) (somes os) ++ rest)))
      (forest_findings nodes (map (tagged below leaves) (somes os) ++ rest)) found
      → AreAlong (forest nodes (At_page s ∷ spots_in rest)) (forest_findings nodes (here ∷ rest)) (own_findings nodes here ++ found)
  page_along found along =
      rw (← own_first)
      (along_visit (page_visits nodes s node (spots_in rest) page) (forest_findings nodes (here ∷ rest))
      (forest_findings nodes (map (tagged below leaves) (somes os) ++ rest))
      (λ b t e. page_same b) (At_page s) refl found (rw (spots_kids below leaves rest (somes os)) at along))

-- ---- an inline bucket

inline_same : (nodes : Nodes) (u : Unread) (rest : List Unread) (b : List ℕ)
    → forest_findings nodes (u ∷ rest) (lift [] b) ≡ forest_findings nodes rest b
inline_same nodes u rest [] = refl
inline_same nodes u rest (k ∷ way) = refl

inline_along : (nodes : Nodes) (host : ℕ) (inner : InlinePage) (in_root : Bool) (above : ℕ) (rest : List Unread) (found : List Finding)
    → AreAlong (forest nodes (spots_in rest)) (forest_findings nodes rest) found
    → AreAlong (forest nodes (At_inline host inner ∷ spots_in rest)) (forest_findings nodes (tagged in_root above (At_inline host inner) ∷ rest))
    (own_findings nodes (tagged in_root above (At_inline host inner)) ++ found)
inline_along nodes host inner in_root above rest found along =
    let u = tagged in_root above (At_inline host inner) in
    along_visit (inline_visits nodes host inner (spots_in rest)) (forest_findings nodes (u ∷ rest)) (forest_findings nodes rest)
    (λ b t e. inline_same nodes u rest b)
    (At_inline host inner) refl found along

-- ---- the beginning and the end

root_same : (nodes : Nodes) (root : ℕ) (b : List ℕ) (t : Spot) → forest nodes (At_page (root_spot root) ∷ []) b ≡ Some t
    → way_findings nodes root (tail b) ≡ forest_findings nodes (tagged true 0 (At_page (root_spot root)) ∷ []) b
root_same nodes root b t e = grind (arith, nothing_is, leaves_same, follow_none)

-- the root page alone is left: what is found along its ways is all
pub root_along : (nodes : Nodes) (root : ℕ) (unread : List Unread) → unread ≡ tagged true 0 (At_page (root_spot root)) ∷ [] → (found : List Finding)
    → AreAlong (forest nodes (spots_in unread)) (forest_findings nodes unread) found → AreAlong (reached nodes root) (way_findings nodes root) found
root_along nodes root unread is found along =
    let one = rw is at along in
    along_same (root_visits nodes (At_page (root_spot root))) (way_findings nodes root) (forest_findings nodes (tagged true 0 (At_page (root_spot root)) ∷ []))
    (root_same nodes root) refl found one

-- nothing is left
pub none_along : (nodes : Nodes) → AreAlong (forest nodes []) (forest_findings nodes []) []
none_along nodes = grind (arith, nothing_is, forest_empty)

-- a spot is read: what is found at it, and then along the ways of what is left
pub unread_along : (nodes : Nodes) (u : Unread) (rest after : List Unread)
    (node_of_page : (s : PageSpot) → u.spot ≡ At_page s → (node : Node) × (nodes s.number ≡ Ok node))
    → after ≡ unread_kids nodes u ++ rest → (found : List Finding)
    → AreAlong (forest nodes (spots_in after)) (forest_findings nodes after) found
    → AreAlong (forest nodes (spots_in (u ∷ rest))) (forest_findings nodes (u ∷ rest)) (own_findings nodes u ++ found)
unfolding kids
unread_along nodes u rest after good e found along = by u.in_root u.above u.spot good e
  where
    by : (in_root : Bool) (above : ℕ) (spot : Spot) → ((s : PageSpot) → spot ≡ At_page s → (node : Node) × (nodes s.number ≡ Ok node))
        → after ≡ unread_kids nodes (tagged in_root above spot) ++ rest
        → AreAlong (forest nodes (spot ∷ spots_in rest)) (forest_findings nodes (tagged in_root above spot ∷ rest))
        (own_findings nodes (tagged in_root above spot) ++ found)
    by in_root above (At_page s) known is =
        let (node, page) = known s refl in
        let kept = rw (is, page) at along in
        page_along nodes s in_root above rest node page found kept
    by in_root above (At_inline host inner) known is =
        let kept = rw is at along in
        inline_along nodes host inner in_root above rest found kept

-- all that is found, in the words of the definition
pub all_found : (nodes : Nodes) (root : ℕ) (found : List Finding) → AreAlong (reached nodes root) (way_findings nodes root) found
    → AreBboltFindings nodes root found
all_found nodes root found along = record { tour = along.tour; whole = along.whole; all = along.all }
