-- Where each entry of a page leads: docs/SOUND.md, "Ways".
use Rattle.std.specs.Prelude.{Bool, List, [], ◌∷◌, Option, slice_get}
use Rattle.bolt_check.specs.{Nodes.Entry, Ways.PageSpot, Ways.Spot, Ways.spot_of, Ways.upper_from}

abbrev pub places : Bool → PageSpot → List Entry → List (Option Spot)
places is_leaf s [] = []
places is_leaf s (e ∷ entries) = spot_of is_leaf s (upper_from (slice_get entries 0) s.upper) e ∷ places is_leaf s entries
