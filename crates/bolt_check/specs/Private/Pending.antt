-- The spots that are still to be visited, as ways: the first number of a way picks the spot.
use Rattle.std.specs.Prelude.{List, [], ◌∷◌, map, reverse, Option, Some, None, slice_get}
use Rattle.bolt_check.specs.{EntrySpots.places, Nodes.Node, Nodes.Nodes, Ways.PageSpot, Ways.Reach, Ways.Spot, Ways.follow, ShownSpots.spot_at}
use Rattle.bolt_check.specs.{Private.Carries.Carries, Private.Carries.Takes}
use Rattle.bolt_check.specs.{Private.Tables.IsClaimed, Private.Uses.IsNoted, declared.table.PageUse.PageUse, declared.spot.Spot.Spot as CodeSpot}

-- the pending spots, the first to be visited first
abbrev pub spots_of : List CodeSpot → List Spot
spots_of spots = map spot_at (reverse spots)

-- what the ways from these spots lead to
abbrev pub forest : Nodes → List Spot → Reach
forest nodes spots [] = None
forest nodes spots (k ∷ way) = follow nodes (slice_get spots k) way

abbrev pub somes : List (Option Spot) → List Spot
somes [] = []
somes (None ∷ os) = somes os
somes (Some s ∷ os) = s ∷ somes os

unfoldable pub kids : Node → PageSpot → List Spot
kids node s = somes (places node.is_leaf s node.entries)

-- what the ways from this spot and from those that are still pending lead to
abbrev pub pending_reach : Nodes → CodeSpot → List CodeSpot → Reach
pending_reach nodes spot left = forest nodes (spot_at spot ∷ spots_of left)

-- what is known of the ways from the spots that are pending now, and of this table, carries over to those from this spot and the ones left
abbrev pub CarriesPending : Nodes → CodeSpot → List CodeSpot → List PageUse → List CodeSpot → List PageUse → Type 0
CarriesPending nodes spot left old pending new =
    Carries nodes (pending_reach nodes spot left) (IsClaimed old) (IsNoted old)
    (forest nodes (spots_of pending)) (IsClaimed new) (IsNoted new)

-- the table after a visit: what was claimed before, and the spot's span
abbrev pub ClaimsSpan : Nodes → Spot → List PageUse → List PageUse → Type 0
ClaimsSpan nodes s old new = Takes nodes (Some s) (IsClaimed old) (IsClaimed new) (IsNoted old) (IsNoted new)
