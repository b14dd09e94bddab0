-- What the laws speak of: the buckets of a file with sound trees, and its listing.
use Rattle.std.specs.Prelude.{◌≡◌, ◌≤◌, ◌+◌, ℕ, IsTrue, List, Some, slice_get}
use Rattle.bolt_format.specs.{Elements.LeafElement, Pages.PageView, Pages.page_at, declared.meta.Meta.Meta}
use Rattle.bolt_format.specs.declared.header.Kind.TheVariants as kind
use Rattle.bolt_check.specs.{Keys.Key, OnWays.IsOnWay, Sound.HasSoundTrees}
use Rattle.bolt_tree.specs.{Entries.AreEntries, Entries.IsEntry, Entries.IsStart, Entries.Start, Listing.IsListing, Listing.Member}
use Rattle.bolt_tree.specs.{OpeningCounts.IsGap, OpeningCounts.IsSeekCount, Places.least_from}

-- a property holds of each bucket of a file with sound trees
abbrev pub ForBuckets : (List ℕ → Meta → Start → Type 0) → Type 0
ForBuckets P = (file : List ℕ) (meta : Meta) (start : Start) → HasSoundTrees file meta → IsStart file meta start → P file meta start

-- a property holds of each bucket of a file with sound trees, and of its entries in order
abbrev pub ForBucketEntries : (List ℕ → Meta → Start → List LeafElement → Type 0) → Type 0
ForBucketEntries P = ForBuckets (λ file meta start. (entries : List LeafElement) → AreEntries (IsEntry file meta) start entries → P file meta start entries)

-- a property holds of the listing of each file with sound trees
abbrev pub ForListings : (List ℕ → Meta → List Member → Type 0) → Type 0
ForListings P = (file : List ℕ) (meta : Meta) (listing : List Member) → HasSoundTrees file meta → IsListing file meta listing → P file meta listing

-- a property holds of each bucket's element on a leaf that a way leads to
abbrev pub ForBucketElements : (List ℕ → Meta → LeafElement → Type 0) → Type 0
ForBucketElements P = (file : List ℕ) (meta : Meta) (n depth i : ℕ) (view : PageView) (e : LeafElement) → IsOnWay file meta n depth
    → page_at file meta n ≡ Some view → view.kind ≡ kind.Leaf → slice_get view.leaves i ≡ Some e → IsTrue e.is_bucket → P file meta e

-- for each key there is a number of pages that a seek opens
abbrev pub SeeksAreCounted : List ℕ → Meta → Start → List LeafElement → Type 0
SeeksAreCounted file meta start entries = (key : Key) → (n : ℕ) × IsSeekCount file meta start entries key n

-- the pages that a seek opens are at most the longest way down, and the gap before the entry that the seek comes to
abbrev pub SeeksAreBounded : List ℕ → Meta → Start → List LeafElement → Type 0
SeeksAreBounded file meta start entries = (key : Key) (n gap : ℕ) → IsSeekCount file meta start entries key n
    → IsGap file meta start entries (least_from key entries) gap → n ≤ 64 + gap
