-- What a node leads to from an entry on.
use Rattle.std.proofs.Common.{rules, ◌≡◌, ℕ, suc, ◌+◌, ◌<◌, ◌≤◌, Bool, List, [], ◌∷◌, ◌++◌, Some, None, length, map, drop, slice_get, refl, ap, arith}
use Rattle.std.proofs.lemmas.List.{reverse-append, drop_all}
use Rattle.bolt_check.proofs.Words.{Entry, kids, Node, PageSpot, places, somes, Spot, spot_at, spots_of, step_entry, step_on}
use Rattle.bolt_check.specs.{Private.Unread.unread_view, Private.Unread.unread_of, declared.for_bbolt.UnreadSpot.UnreadSpot}
use Rattle.bolt_check.specs.{declared.spot.Spot.Spot as CodeSpot}

pub places_drop : (is_leaf : Bool) (s : PageSpot) (entries : List Entry) (i : ℕ) → i < length entries
    → places is_leaf s (drop i entries) ≡ step_entry is_leaf s (slice_get entries i) (slice_get entries (suc i)) ∷ places is_leaf s (drop (suc i) entries)
places_drop is_leaf s (e ∷ entries) (suc i) h = places_drop is_leaf s entries i (omega arith)
places_drop is_leaf s entries i h = grind arith

pub spots_push : (spots : List CodeSpot) (spot : CodeSpot) → spots_of (spots ++ spot ∷ []) ≡ spot_at spot ∷ spots_of spots
spots_push spots spot = ap (map spot_at) (reverse-append spots (spot ∷ []))

pub unread_push : (unread : List UnreadSpot) (u : UnreadSpot) → unread_of (unread ++ u ∷ []) ≡ unread_view u ∷ unread_of unread
unread_push unread u = ap (map unread_view) (reverse-append unread (u ∷ []))

-- the spots from entry i on
abbrev pub kids_from : Node → PageSpot → ℕ → List Spot
kids_from node s i = somes (places node.is_leaf s (drop i node.entries))

pub kids_none : (node : Node) (s : PageSpot) (i : ℕ) → i < length node.entries → None ≡ step_on node s i
    → kids_from node s i ≡ kids_from node s (i + 1)
kids_none node s i h e = search (rules, places_drop)

pub kids_some : (node : Node) (s : PageSpot) (i : ℕ) (kid : CodeSpot) → i < length node.entries → Some (spot_at kid) ≡ step_on node s i
    → kids_from node s i ≡ spot_at kid ∷ kids_from node s (i + 1)
kids_some node s i kid h e = search (rules, places_drop)

pub kids_end : (node : Node) (s : PageSpot) (i : ℕ) → length node.entries ≤ i → kids_from node s i ≡ []
kids_end node s i h = rw (drop_all i node.entries h) refl

pub kids_all : (node : Node) (s : PageSpot) → kids node s ≡ kids_from node s 0
unfolding kids
kids_all node s = refl
