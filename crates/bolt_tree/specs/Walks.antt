-- What is left of a walk, and its path: docs/LISTING.md, "The walk". A walk has a part of each listing of its file ahead of it; it doesn't
-- have the list itself.
use Rattle.std.specs.Prelude.{◌≡◌, List, [], ◌∷◌, Option, Some, None}
use Rattle.std.specs.Option.{option_map}
use Rattle.bolt_tree.specs.{Entries.Item, FileListings.ForListing, Listing.Member, Paths.Path, ShownEntries.item_view}
use Rattle.bolt_tree.specs.declared.entry.Item as shown
use Rattle.bolt_tree.specs.{Private.OpenBuckets.left_by, Private.OpenBuckets.reported_path, Private.OpenBuckets.open_path, declared.walk.Walk.Walk}
use Rattle.bolt_check.specs.declared.checked.Checked.{Checked}

unfoldable pub walk_checked : Walk → Checked
walk_checked walk = walk.buckets.checked

-- the part of a listing that the walk has ahead of it
unfoldable pub left_of : Walk → List Member → List Member
left_of walk listing = left_by walk.ahead (open_path walk.buckets) listing

-- the path of the last item that a walk returned
unfoldable pub walk_path : Walk → Path
walk_path walk = reported_path walk.ahead (open_path walk.buckets)

-- The first member that was left is returned, and the others are left; or none was left, none is, and the path is empty.
abbrev pub GivesNext : List Member → List Member → Path → Option Item → Type 0
GivesNext old new path (Some item) = old ≡ (path, item) ∷ new
GivesNext old new path None = (old ≡ []) × (new ≡ []) × (path ≡ [])

-- a call gives the next item
abbrev pub GivesItem : (old new : Walk) → Option shown.Item → Type 0
GivesItem old new given =
    ForListing (walk_checked old) (λ listing. GivesNext (left_of old listing) (left_of new listing) (walk_path new) (option_map item_view given))

-- a walk has the same ahead of it as before
abbrev pub HasSameLeft : (old new : Walk) → Type 0
HasSameLeft old new = ForListing (walk_checked old) (λ listing. left_of new listing ≡ left_of old listing)
