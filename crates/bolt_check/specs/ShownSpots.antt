-- A spot of the code as the definitions have it: docs/SOUND.md, "Ways".
use Rattle.std.specs.Prelude.{◌≡◌, ℕ, List, map, Option, Some, None}
use Rattle.std.specs.Borrow.{Bor}
use Rattle.bolt_format.specs.{Elements.LeafElement, Elements.inline_elements, Gaps.shown_inline_gap, ShownInline.shown_inline}
use Rattle.bolt_format.specs.{declared.bucket_value.Inline.Inline}
use Rattle.bolt_check.specs.{Keys.Key, Nodes.InlinePage, Ways.At_inline, Ways.At_page, Ways.PageSpot, Ways.Spot}
use Rattle.bolt_check.specs.{declared.spot.PageSpot.PageSpot as CodePageSpot}
use Rattle.bolt_check.specs.{declared.spot.Spot.Spot as CodeSpot, declared.spot.Spot.TheVariants.Page, declared.spot.Spot.TheVariants.Bucket}

abbrev pub bound_of : Option (Bor (List ℕ)) → Option (List ℕ)
bound_of None = None
bound_of (Some bound) = Some bound.now

abbrev pub page_spot : CodePageSpot → PageSpot
page_spot spot = record { number = spot.number; depth = spot.depth; lower = bound_of spot.lower; upper = bound_of spot.upper }

abbrev pub inline_keys : Inline → List Key
inline_keys page = map (λ (e : LeafElement). e.key) (shown_inline page)

abbrev pub shown_inner : Inline → InlinePage
shown_inner page = record { number = page.number; keys = inline_keys page; gap = shown_inline_gap page }

abbrev pub spot_at : CodeSpot → Spot
spot_at (Page spot) = At_page (page_spot spot)
spot_at (Bucket spot) = At_inline spot.host (shown_inner spot.page)

-- an inline bucket to be visited is the one in this value
abbrev pub IsInner : List ℕ → CodeSpot → Type 0
IsInner value (Page spot) = Unit {0}
IsInner value (Bucket spot) = shown_inline spot.page ≡ inline_elements value
