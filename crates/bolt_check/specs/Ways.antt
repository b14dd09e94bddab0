-- Ways from the root page: docs/SOUND.md, "Ways". A way is a list of entry numbers; it leads to a page or an inline bucket.
use Rattle.std.specs.Prelude.{◌≡◌, ℕ, suc, ◌<◌, ◌⊎◌, ◌↔◌, ◌==◌, Bool, true, false, List, [], ◌∷◌, Option, Some, None, Result, Ok, Err, if◌then◌else◌}
use Rattle.std.specs.Prelude.{slice_get}
use Rattle.bolt_check.specs.{Keys.Key, Nodes.Entry, Nodes.InlinePage, Nodes.IsInSpan, Nodes.Node, Nodes.Nodes}

-- A page that a way leads to: its number, its depth, and the bounds of its keys. The root page of a bucket has depth 1.
pub record PageSpot : Type 0 where
  pub number : ℕ
  pub depth : ℕ
  pub lower : Option Key
  pub upper : Option Key

-- what a way leads to: a page, or an inline bucket with its page and the number of the page that contains it
pub data Spot : Type 0 where
  At_page : PageSpot → Spot
  At_inline : ℕ → InlinePage → Spot

-- a bucket's root page has depth 1 and no bounds
abbrev pub root_spot : ℕ → PageSpot
root_spot number = record { number = number; depth = 1; lower = None; upper = None }

-- the upper bound of a child: the key of the next entry or, after the last, the page's own bound
abbrev pub upper_from : Option Entry → Option Key → Option Key
upper_from (Some next) upper = Some next.key
upper_from None upper = upper

abbrev pub bucket_spot : ℕ → Entry → Spot
bucket_spot host e = if e.child == 0 then At_inline host e.inner else At_page (root_spot e.child)

abbrev pub bucket_spots : ℕ → Entry → Option Spot
bucket_spots host e = if e.is_bucket then Some (bucket_spot host e) else None

-- a child of a branch
abbrev pub child_spot : PageSpot → Entry → Option Key → PageSpot
child_spot s e upper = record { number = e.child; depth = suc s.depth; lower = Some e.key; upper = upper }

-- where one entry leads
abbrev pub spot_of : Bool → PageSpot → Option Key → Entry → Option Spot
spot_of false s upper e = Some (At_page (child_spot s e upper))
spot_of true s upper e = bucket_spots s.number e

abbrev pub step_entry : Bool → PageSpot → Option Entry → Option Entry → Option Spot
step_entry is_leaf s None next = None
step_entry is_leaf s (Some e) next = spot_of is_leaf s (upper_from next s.upper) e

abbrev pub step_on : Node → PageSpot → ℕ → Option Spot
step_on node s i = step_entry node.is_leaf s (slice_get node.entries i) (slice_get node.entries (suc i))

abbrev pub step_at : Result Node ℕ → PageSpot → ℕ → Option Spot
step_at (Err fault) s i = None
step_at (Ok node) s i = step_on node s i

abbrev pub step_from : Nodes → Spot → ℕ → Option Spot
step_from nodes (At_page s) i = step_at (nodes s.number) s i
step_from nodes (At_inline host inner) i = None

abbrev pub step : Nodes → Option Spot → ℕ → Option Spot
step nodes None i = None
step nodes (Some s) i = step_from nodes s i

-- where a way leads from here
abbrev pub follow : Nodes → Option Spot → List ℕ → Option Spot
follow nodes here [] = here
follow nodes here (i ∷ way) = follow nodes (step nodes here i) way

-- what each way leads to
abbrev pub Reach : Type 0
Reach = List ℕ → Option Spot

abbrev pub reached : Nodes → ℕ → Reach
reached nodes root way = follow nodes (Some (At_page (root_spot root))) way

-- ways are ordered as lists of numbers; a list comes before those that it is a prefix of
abbrev pub Before : List ℕ → List ℕ → Type 0
Before v [] = ⊥
Before [] (j ∷ w) = Unit {0}
Before (i ∷ v) (j ∷ w) = (i < j) ⊎ ((i ≡ j) × Before v w)

-- page n lies in the span of this spot
abbrev pub SpanOf : Result Node ℕ → ℕ → ℕ → Type 0
SpanOf (Err fault) number n = ⊥
SpanOf (Ok node) number n = IsInSpan node number n

abbrev pub SpanAt : Nodes → Spot → ℕ → Type 0
SpanAt nodes (At_page s) n = SpanOf (nodes s.number) s.number n
SpanAt nodes (At_inline host inner) n = ⊥

-- exactly the span of this spot is added to the old pages
abbrev pub AddsSpan : Nodes → Spot → (ℕ → Type 0) → (ℕ → Type 0) → Type 0
AddsSpan nodes s old new = (n : ℕ) → new n ↔ (old n ⊎ SpanAt nodes s n)

abbrev pub SpanHas : Nodes → Option Spot → ℕ → Type 0
SpanHas nodes None n = ⊥
SpanHas nodes (Some s) n = SpanAt nodes s n
