-- The spots that are still to be read for what bbolt fails on.
use Rattle.std.specs.Prelude.{◌≤◌, ◌==◌, ◌&&◌, ℕ, Bool, List, [], Some, Result, Ok, Err, if◌then◌else◌, map, not, reverse}
use Rattle.bolt_check.specs.{BboltFindings.first_leaf_depth, BboltFindings.spot_findings, Nodes.Node, Nodes.Nodes, Private.Pending.kids}
use Rattle.bolt_check.specs.{ShownSpots.spot_at, Subtrees.Enough}
use Rattle.bolt_check.specs.{Ways.At_inline, Ways.At_page, Ways.PageSpot, Ways.Spot, declared.for_bbolt.UnreadSpot.UnreadSpot}
use Rattle.bolt_check.specs.{declared.finding.Finding.Finding}

-- a spot, whether it is in the root bucket, and the depth of the first leaf of the bucket that the page above it is in
pub record Unread : Type 0 where
  pub in_root : Bool
  pub above : ℕ
  pub spot : Spot

abbrev pub tagged : Bool → ℕ → Spot → Unread
tagged in_root above spot = record { in_root = in_root; above = above; spot = spot }

abbrev pub unread_view : UnreadSpot → Unread
unread_view u = tagged u.in_root u.leaves_above (spot_at u.spot)

-- the first to be read first
abbrev pub unread_of : List UnreadSpot → List Unread
unread_of unread = map unread_view (reverse unread)

-- the depth of the first leaf of the bucket that a page is in: a bucket's root page has depth 1, and all others are in the bucket of the page
-- above them
abbrev pub page_leaves : Nodes → (above : ℕ) → PageSpot → ℕ
page_leaves nodes above s = if s.depth == 1 then first_leaf_depth nodes 63 s.number else above

abbrev pub own_leaves : Nodes → (above : ℕ) → Spot → ℕ
own_leaves nodes above (At_page s) = page_leaves nodes above s
own_leaves nodes above (At_inline host inner) = above

-- what is found at this spot itself
abbrev pub own_findings : Nodes → Unread → List Finding
own_findings nodes u = spot_findings nodes u.in_root (own_leaves nodes u.above u.spot) (Some u.spot)

-- what this page leads to, all with the same tag
abbrev pub tagged_kids : Bool → ℕ → Node → PageSpot → List Unread
tagged_kids in_root leaves node s = map (tagged in_root leaves) (kids node s)

-- what this spot leads to: the children of a branch of the root bucket are in it, and a bucket on a leaf isn't
abbrev pub node_kids : Bool → ℕ → PageSpot → Result Node ℕ → List Unread
node_kids in_root leaves s (Ok node) = tagged_kids (in_root && not node.is_leaf) leaves node s
node_kids in_root leaves s (Err fault) = []

abbrev pub spot_kids : Nodes → Bool → ℕ → Spot → List Unread
spot_kids nodes in_root above (At_page s) = node_kids in_root (page_leaves nodes above s) s (nodes s.number)
spot_kids nodes in_root above (At_inline host inner) = []

abbrev pub unread_kids : Nodes → Unread → List Unread
unread_kids nodes u = spot_kids nodes u.in_root u.above u.spot

-- a page that is good with all pages below it
abbrev pub IsGoodDown : Nodes → ℕ → Type 0
IsGoodDown nodes number = (steps : ℕ) × Enough nodes steps number

-- a spot that can be read: a page that is good with all pages below it and isn't too deep, or an inline page
abbrev pub IsReadable : Nodes → (steps : ℕ) → Spot → Type 0
IsReadable nodes steps (At_page s) = (s.depth ≤ 64) × Enough nodes steps s.number
IsReadable nodes steps (At_inline host inner) = Unit {0}

-- a spot leads to at most this many spots
abbrev pub most_kids : Spot → ℕ
most_kids (At_page s) = 65535
most_kids (At_inline host inner) = 0
