-- The spots that are still to be visited, as ways: the first number of a way picks the spot, the rest leads on from it.
use Rattle.std.proofs.Common.{rules, ◌≡◌, ℕ, zero, suc, ◌<◌, ◌⊎◌, inl, inr, Bool, List, [], ◌∷◌, ◌++◌, Option, Some, None, Ok, slice_get, refl, sym}
use Rattle.std.proofs.Common.{ap, subst, arith, ◌∙◌}
use Rattle.bolt_check.proofs.Words.{InlinePage, At_inline, At_page, Before, Entry, Finding, follow, forest, IsClaimedBefore, IsClean, IsCovered}
use Rattle.bolt_check.proofs.Words.{IsFirst, Node, Nodes, PageSpot, places, somes, Spot, step, step_entry, Tests}
use Rattle.bolt_check.proofs.{Judging.tests_same, Visiting.Visits}

pub follow_none : (nodes : Nodes) (way : List ℕ) → follow nodes None way ≡ None
follow_none nodes [] = refl
follow_none nodes (i ∷ way) = follow_none nodes way

pub nothing_is : (t : Spot) → None ≡ Some t → ⊥
nothing_is t e = cc

pub follow_some : (nodes : Nodes) (o : Option Spot) (way : List ℕ) (t : Spot) → follow nodes o way ≡ Some t → (u : Spot) × (o ≡ Some u)
follow_some nodes None way t e = absurd (nothing_is t (sym (follow_none nodes way) ∙ e))
follow_some nodes (Some u) way t e = (u, refl)

abbrev pub flat : Option (Option Spot) → Option Spot
flat None = None
flat (Some o) = o

-- the k-th of the spots in `os`, and then of the rest: at which pair, or which of the rest
abbrev pub up : ℕ ⊎ ℕ → ℕ ⊎ ℕ
up (inl j) = inl (suc j)
up (inr k) = inr k

abbrev pub where_is : List (Option Spot) → ℕ → ℕ ⊎ ℕ
where_is [] k = inr k
where_is (None ∷ os) k = up (where_is os k)
where_is (Some s ∷ os) zero = inl 0
where_is (Some s ∷ os) (suc k) = up (where_is os k)

abbrev at_place : List (Option Spot) → List Spot → ℕ ⊎ ℕ → Option Spot
at_place os rest (inl j) = flat (slice_get os j)
at_place os rest (inr k) = slice_get rest k

at_up : (o : Option Spot) (os : List (Option Spot)) (rest : List Spot) (x : ℕ ⊎ ℕ) → at_place (o ∷ os) rest (up x) ≡ at_place os rest x
at_up o os rest x = grind arith

at_same : (os : List (Option Spot)) (rest : List Spot) (k : ℕ) → at_place os rest (where_is os k) ≡ slice_get (somes os ++ rest) k
at_same (None ∷ os) rest k = at_up None os rest (where_is os k) ∙ at_same os rest k
at_same (Some s ∷ os) rest (suc k) = at_up (Some s) os rest (where_is os k) ∙ at_same os rest k
at_same os rest k = grind arith

abbrev Less : ℕ ⊎ ℕ → ℕ ⊎ ℕ → Type 0
Less (inl i) (inl j) = i < j
Less (inl i) (inr k) = Unit {0}
Less (inr i) (inl j) = ⊥
Less (inr i) (inr j) = i < j

less_up : (x y : ℕ ⊎ ℕ) → Less x y → Less (up x) (up y)
less_up x y h = grind arith

less_zero : (x : ℕ ⊎ ℕ) → Less (inl 0) (up x)
less_zero x = grind arith

where_rising : (os : List (Option Spot)) (k l : ℕ) → k < l → Less (where_is os k) (where_is os l)
where_rising (None ∷ os) k l h = less_up (where_is os k) (where_is os l) (where_rising os k l h)
where_rising (Some s ∷ os) (suc k) (suc l) h = less_up (where_is os k) (where_is os l) (where_rising os k l (omega arith))
where_rising os k l h = grind (arith, less_zero)

where_all : (os : List (Option Spot)) (rest : List Spot) (x : ℕ ⊎ ℕ) (t : Spot) → at_place os rest x ≡ Some t → (k : ℕ) × (where_is os k ≡ x)
where_all (None ∷ os) rest (inl (suc j)) t e = let p = where_all os rest (inl j) t e in (p.0, ap up p.1)
where_all (Some s ∷ os) rest (inl (suc j)) t e = let p = where_all os rest (inl j) t e in (suc p.0, ap up p.1)
where_all (None ∷ os) rest (inr k) t e = let p = where_all os rest (inr k) t e in (p.0, ap up p.1)
where_all (Some s ∷ os) rest (inr k) t e = let p = where_all os rest (inr k) t e in (suc p.0, ap up p.1)
where_all os rest x t e = grind (arith, nothing_is)

abbrev pub way_of : ℕ ⊎ ℕ → List ℕ → List ℕ
way_of (inl j) v = 0 ∷ (j ∷ v)
way_of (inr k) v = suc k ∷ v

way_rising : (x y : ℕ ⊎ ℕ) (v w : List ℕ) → Less x y → Before (way_of x v) (way_of y w)
way_rising x y v w h = grind arith

-- a way of the spots after a visit, as a way of those before it
abbrev pub lift : List (Option Spot) → List ℕ → List ℕ
lift os [] = []
lift os (k ∷ v) = way_of (where_is os k) v

lift_rising : (nodes : Nodes) (rest : List Spot) (os : List (Option Spot)) (b e : List ℕ) (t : Spot) → forest nodes (somes os ++ rest) b ≡ Some t
    → Before b e → Before (lift os b) (lift os e)
lift_rising nodes rest os b e t at h = grind (arith, nothing_is, way_rising, where_rising)

reach_way : (nodes : Nodes) (s : Spot) (rest : List Spot) (os : List (Option Spot)) → ((j : ℕ) → flat (slice_get os j) ≡ step nodes (Some s) j)
    → (x : ℕ ⊎ ℕ) (v : List ℕ) → forest nodes (s ∷ rest) (way_of x v) ≡ follow nodes (at_place os rest x) v
reach_way nodes s rest os fits x v = grind arith

reach_kid : (nodes : Nodes) (rest : List Spot) (os : List (Option Spot)) (k : ℕ) (v : List ℕ)
    → follow nodes (at_place os rest (where_is os k)) v ≡ forest nodes (somes os ++ rest) (k ∷ v)
reach_kid nodes rest os k v = let f : Option Spot → Option Spot = λ o. follow nodes o v in ap f (at_same os rest k)

lift_same : (nodes : Nodes) (s : Spot) (rest : List Spot) (os : List (Option Spot)) → ((j : ℕ) → flat (slice_get os j) ≡ step nodes (Some s) j)
    → (b : List ℕ) (t : Spot) → forest nodes (somes os ++ rest) b ≡ Some t → forest nodes (s ∷ rest) (lift os b) ≡ Some t
lift_same nodes s rest os fits [] t e = absurd (nothing_is t e)
lift_same nodes s rest os fits (k ∷ v) t e = reach_way nodes s rest os fits (where_is os k) v ∙ (reach_kid nodes rest os k v ∙ e)

lift_after : (nodes : Nodes) (rest : List Spot) (os : List (Option Spot)) (b : List ℕ) (t : Spot) → forest nodes (somes os ++ rest) b ≡ Some t
    → Before (0 ∷ []) (lift os b)
lift_after nodes rest os b t e = grind arith

all_at : (nodes : Nodes) (rest : List Spot) (os : List (Option Spot)) (x : ℕ ⊎ ℕ) (v : List ℕ) (t : Spot)
    → follow nodes (at_place os rest x) v ≡ Some t
    → (b : List ℕ) × ((way_of x v ≡ lift os b) × (forest nodes (somes os ++ rest) b ≡ Some t))
all_at nodes rest os x v t e =
    let u = follow_some nodes (at_place os rest x) v t e in
    let p = where_all os rest x u.0 u.1 in
    let f : ℕ ⊎ ℕ → List ℕ = λ y. way_of y v in
    let g : ℕ ⊎ ℕ → Option Spot = λ y. follow nodes (at_place os rest y) v in
    (p.0 ∷ v, (ap f (sym p.1), sym (reach_kid nodes rest os p.0 v) ∙ (ap g p.1 ∙ e)))

lift_all : (nodes : Nodes) (s : Spot) (rest : List Spot) (os : List (Option Spot)) → ((j : ℕ) → flat (slice_get os j) ≡ step nodes (Some s) j)
    → (a : List ℕ) (t : Spot) → forest nodes (s ∷ rest) a ≡ Some t
    → ((a ≡ 0 ∷ []) × (Some s ≡ Some t)) ⊎ ((b : List ℕ) × ((a ≡ lift os b) × (forest nodes (somes os ++ rest) b ≡ Some t)))
lift_all nodes s rest os fits [] t e = absurd (nothing_is t e)
lift_all nodes s rest os fits (zero ∷ []) t e = inl (refl, e)
lift_all nodes s rest os fits (zero ∷ (j ∷ v)) t e = inr (all_at nodes rest os (inl j) v t (sym (reach_way nodes s rest os fits (inl j) v) ∙ e))
lift_all nodes s rest os fits (suc k ∷ v) t e = inr (all_at nodes rest os (inr k) v t e)

places_step : (is_leaf : Bool) (s : PageSpot) (entries : List Entry) (j : ℕ)
    → flat (slice_get (places is_leaf s entries) j) ≡ step_entry is_leaf s (slice_get entries j) (slice_get entries (suc j))
places_step is_leaf s (e ∷ entries) (suc j) = places_step is_leaf s entries j
places_step is_leaf s entries j = grind arith

pub kids_step : (nodes : Nodes) (s : PageSpot) (node : Node) → nodes s.number ≡ Ok node → (j : ℕ)
    → flat (slice_get (places node.is_leaf s node.entries) j) ≡ step nodes (Some (At_page s)) j
kids_step nodes s node e j = rw e (places_step node.is_leaf s node.entries j)

-- where these places are what s leads to, they take its place
visits : (nodes : Nodes) (s : Spot) (rest : List Spot) (os : List (Option Spot)) → ((j : ℕ) → flat (slice_get os j) ≡ step nodes (Some s) j)
    → Visits (forest nodes (s ∷ rest)) (forest nodes (somes os ++ rest)) (Some s) (0 ∷ []) (lift os)
visits nodes s rest os fits = search (rules, lift_same, lift_rising, lift_after, lift_all)

-- a page's visit
pub page_visits : (nodes : Nodes) (s : PageSpot) (node : Node) (rest : List Spot) → nodes s.number ≡ Ok node
    → Visits (forest nodes (At_page s ∷ rest)) (forest nodes (somes (places node.is_leaf s node.entries) ++ rest)) (Some (At_page s)) (0 ∷ [])
    (lift (places node.is_leaf s node.entries))
page_visits nodes s node rest e = visits nodes (At_page s) rest (places node.is_leaf s node.entries) (kids_step nodes s node e)

-- an inline bucket's visit
pub inline_visits : (nodes : Nodes) (host : ℕ) (inner : InlinePage) (rest : List Spot)
    → Visits (forest nodes (At_inline host inner ∷ rest)) (forest nodes rest) (Some (At_inline host inner)) (0 ∷ []) (lift [])
inline_visits nodes host inner rest = visits nodes (At_inline host inner) rest [] (λ j. refl)

none_before_first : (nodes : Nodes) (spots : List Spot) (v : List ℕ) (t : Spot) → Before v (0 ∷ []) → forest nodes spots v ≡ Some t → ⊥
none_before_first nodes spots v t h e = grind arith

only_start : (nodes : Nodes) (c : ℕ → Type 0) (spots : List Spot) (n : ℕ) → IsClaimedBefore nodes (forest nodes spots) c (0 ∷ []) n → c n
only_start nodes c spots n h = grind arith

-- a visit that found something
pub found_step : (nodes : Nodes) (c : ℕ → Type 0) (s : Spot) (rest : List Spot) (x : Finding) → Tests nodes c s x
    → IsFirst nodes (forest nodes (s ∷ rest)) c x
found_step nodes c s rest x m = record {
  way = 0 ∷ [];
  spot = s;
  leads = refl;
  reported = tests_same nodes c (IsClaimedBefore nodes (forest nodes (s ∷ rest)) c (0 ∷ [])) s x (λ n h. inl h) (only_start nodes c (s ∷ rest)) m;
  none_before = λ v t y lt e _. none_before_first nodes (s ∷ rest) v t lt e;
}

pub forest_empty : (nodes : Nodes) (way : List ℕ) → forest nodes [] way ≡ None
forest_empty nodes way = grind (arith, follow_none)

-- nothing is left to visit
pub clean_end : (nodes : Nodes) (c : ℕ → Type 0) → IsClean nodes (forest nodes []) c
clean_end nodes c = record { passes = λ way s e. absurd (nothing_is s (sym (forest_empty nodes way) ∙ e)) }

pub covered_end : (nodes : Nodes) (c : ℕ → Type 0) (n : ℕ) → IsCovered nodes (forest nodes []) c n → c n
covered_end nodes c n h = grind (arith, forest_empty)

-- the search begins with the root alone
abbrev pub tail : List ℕ → List ℕ
tail [] = []
tail (i ∷ way) = way

root_way : (nodes : Nodes) (s : Spot) (way : List ℕ) (t : Spot) → forest nodes (s ∷ []) way ≡ Some t → way ≡ 0 ∷ tail way
root_way nodes s way t e = grind (arith, follow_none)

tail_before : (a b : List ℕ) → Before (0 ∷ a) (0 ∷ b) → Before a b
tail_before a b h = grind arith

pub root_visits : (nodes : Nodes) (s : Spot) → Visits (follow nodes (Some s)) (forest nodes (s ∷ [])) None [] tail
root_visits nodes s = record {
  leads = λ t e. absurd (nothing_is t e);
  same = λ b t e. subst (λ (z : List ℕ). forest nodes (s ∷ []) z ≡ Some t) (root_way nodes s b t e) e;
  rising = λ a b t u at_a at_b lt. tail_before (tail a) (tail b)
      (subst (λ (z : List ℕ). Before z (0 ∷ tail b)) (root_way nodes s a t at_a) (subst (λ (z : List ℕ). Before a z) (root_way nodes s b u at_b) lt));
  after = λ t e. absurd (nothing_is t e);
  all = λ a t e. inr (0 ∷ a, (refl, e));
}
