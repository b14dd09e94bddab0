-- The open buckets of a walk: docs/LISTING.md, "The walk". A cursor for each, and the keys that the cursors are on: the path of what comes
-- next, or came last.
use Rattle.std.specs.Prelude.{◌≡◌, ℕ, Bool, true, false, IsTrue, List, [], ◌∷◌, ◌++◌, MatchOption, Option, Some, reverse, slice_get}
use Rattle.bolt_format.specs.{Elements.IsBucketValue, Elements.LeafElement, ElementPlaces.leaf_view, declared.element.Leaf.Leaf}
use Rattle.bolt_check.specs.{Keys.Key, declared.checked.Checked.Checked}
use Rattle.bolt_tree.specs.{Buckets.bucket_checked, Buckets.bucket_start, BucketViews.entries_of, FileListings.ForListing, FileListings.root_start}
use Rattle.bolt_tree.specs.{Entries.AreEntries, Entries.Start, Entries.item_of, Entries.start_of, Listing.Member, Listing.rest_from, Paths.HasEntries}
use Rattle.bolt_tree.specs.{Paths.Names, Paths.Path, Paths.path_of}
use Rattle.bolt_tree.specs.{Places.On, RestAfter.rest_after, RestAfter.beyond, Private.CursorViews.innermost_views, Private.Kept.CursorView}
use Rattle.bolt_tree.specs.{Private.Kept.kept_views, declared.bucket.Bucket.Bucket}
use Rattle.bolt_tree.specs.declared.open_buckets.WalkStep.{WalkStep}
use Rattle.bolt_tree.specs.declared.open_buckets.WalkStep.TheVariants.{Begin, Enter, Give, Leave}
use Rattle.bolt_tree.specs.{declared.open_buckets.PartResult.PartResult, declared.open_buckets.PartResult.TheVariants.Here}
use Rattle.bolt_tree.specs.{declared.open_buckets.PartResult.TheVariants.Inside}
use Rattle.bolt_tree.specs.declared.open_buckets.OpenBuckets.{OpenBuckets}

-- the cursors, from the root bucket's on: those that wait, and then the innermost one
abbrev pub waiting_of : OpenBuckets → List CursorView
waiting_of buckets = kept_views buckets.checked (reverse buckets.waiting.items) buckets.positions.items

abbrev pub cursors_of : OpenBuckets → List CursorView
cursors_of buckets = waiting_of buckets ++ innermost_views buckets.innermost

abbrev pub open_path : OpenBuckets → Path
open_path buckets = path_of buckets.path.items

-- a cursor is on an entry with this key
abbrev pub StandsOn : (Start → LeafElement → Type 0) → CursorView → Key → Type 0
StandsOn Entry cursor key = (entries : List LeafElement) → AreEntries Entry cursor.start entries
    → (i : ℕ) × (e : LeafElement) × (cursor.place ≡ On i) × (slice_get entries i ≡ Some e) × (e.key ≡ key)

-- Each cursor is over the bucket that the preceding keys name, and is on the key in its place.
abbrev pub AreOpen : Checked → Path → List CursorView → Path → Type 0
AreOpen checked before [] [] = Unit {0}
AreOpen checked before [] (key ∷ keys) = ⊥
AreOpen checked before (cursor ∷ cursors) [] = ⊥
AreOpen checked before (cursor ∷ cursors) (key ∷ keys) =
    (cursor.checked ≡ checked) × Names (entries_of checked) (root_start checked) before cursor.start × StandsOn (entries_of checked) cursor key
    × AreOpen checked (before ++ key ∷ []) cursors keys

abbrev pub IsInPlace : OpenBuckets → Type 0
IsInPlace buckets = ∥ HasEntries (entries_of buckets.checked) (root_start buckets.checked)
    × AreOpen buckets.checked [] (cursors_of buckets) (open_path buckets) ∥₁

-- the path leads to this element
abbrev pub IsAt : OpenBuckets → Leaf → Type 0
IsAt buckets leaf =
    (IsTrue leaf.is_bucket → IsBucketValue leaf.value.now)
    × ∥ ((path : Path) × (bucket : Start) × (open_path buckets ≡ path ++ leaf.key.now ∷ [])
    × Names (entries_of buckets.checked) (root_start buckets.checked) path bucket
    × entries_of buckets.checked bucket (leaf_view leaf)) ∥₁

-- the path names the bucket of a file that begins there
abbrev pub IsInside : Checked → Path → Start → Type 0
IsInside checked path start = ∥ Names (entries_of checked) (root_start checked) path start ∥₁

-- the bucket is one of the same file, and the path names it
abbrev pub IsNamed : OpenBuckets → Bucket → Type 0
IsNamed buckets bucket = ∥ (bucket_checked bucket ≡ buckets.checked)
    × Names (entries_of buckets.checked) (root_start buckets.checked) (open_path buckets) (bucket_start bucket) ∥₁

-- open buckets from which this may be done next
abbrev pub IsAhead : OpenBuckets → WalkStep → Type 0
IsAhead buckets Begin = open_path buckets ≡ []
IsAhead buckets (Enter value) = IsBucketValue value.now × IsInside buckets.checked (open_path buckets) (start_of value.now)
IsAhead buckets (Give leaf) = IsAt buckets leaf
IsAhead buckets Leave = Unit {0}

-- what is left of a listing: if a bucket is entered, everything after the path; if an element is returned, everything from there; else
-- everything beyond
abbrev pub left_by : WalkStep → Path → List Member → List Member
left_by Begin path listing = rest_after path listing
left_by (Enter value) path listing = rest_after path listing
left_by (Give leaf) path listing = rest_from path listing
left_by Leave path listing = beyond path listing

-- Of what was left of a listing, the element that the path leads to is the first, and what comes after the path is left; or nothing was left.
abbrev pub ComesNext : (left : List Member → List Member) → (old new : OpenBuckets) → Option Leaf → Type 0
ComesNext left old new found = ForListing old.checked (λ listing. MatchOption found (left listing ≡ [])
    (λ leaf. left listing ≡ (open_path new, item_of (leaf_view leaf)) ∷ rest_after (open_path new) listing))

-- A bucket is entered: its first element comes next; or it has none, and what is left is beyond its path.
abbrev pub EntersFirst : (old new : OpenBuckets) → Option Leaf → Type 0
EntersFirst old new found = ForListing old.checked (λ listing. MatchOption found
    (rest_after (open_path old) listing ≡ beyond (open_path old) listing)
    (λ leaf. rest_after (open_path old) listing ≡ (open_path new, item_of (leaf_view leaf)) ∷ rest_after (open_path new) listing))

-- what is left of the file's listing is what `left` says, if the step `ahead` is done next
abbrev pub IsLeft : (left : List Member → List Member) → (old new : OpenBuckets) → WalkStep → Type 0
IsLeft left old new ahead = ForListing old.checked (λ listing. left_by ahead (open_path new) listing ≡ left listing)

-- the path of what was returned last
abbrev pub reported_path : WalkStep → Path → Path
reported_path (Give leaf) path = []
reported_path _ path = path

-- nothing of a path is left
abbrev pub is_end : Path → Bool
is_end [] = true
is_end (key ∷ path) = false

-- A part of a path was searched for, and the path goes on after it or not: it names a bucket, and the path goes on; or the rest from the
-- path is what is left.
abbrev pub IsPartResult : OpenBuckets → OpenBuckets → Key → Bool → PartResult → Type 0
IsPartResult old new part is_last (Inside bucket) = (open_path new ≡ open_path old ++ part ∷ []) × IsNamed new bucket × (is_last ≡ false)
IsPartResult old new part is_last (Here ahead) =
    IsAhead new ahead × (reported_path ahead (open_path new) ≡ [])
    × ((rest : Path) → is_end rest ≡ is_last
    → ForListing old.checked (λ listing. left_by ahead (open_path new) listing ≡ rest_from (open_path old ++ part ∷ rest) listing))
