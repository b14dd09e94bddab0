-- What the calls of a cursor open and compare, over the entries of its bucket in order: docs/LISTING.md, "Openings".
use Rattle.std.specs.Prelude.{◌≡◌, ◌≤◌, ◌+◌, ◌*◌, ℕ, suc, List, length}
use Rattle.bolt_format.specs.Elements.{LeafElement}
use Rattle.bolt_check.specs.{Keys.Key, Counts.counted}
use Rattle.bolt_tree.specs.{BucketViews.AreEntriesOf, BucketViews.BucketView, OpeningCounts.IsGap, OpeningCounts.IsNear, OpeningCounts.IsSeekCount}
use Rattle.bolt_tree.specs.{Places.Fresh, Places.On, Places.Past, Places.Place}

-- a call opens the pages after that of the preceding entry, up to that of entry i or to the bucket's end
abbrev pub OpensGap : BucketView → ℕ → (old new : ℕ) → Type 0
OpensGap b i old new = (entries : List LeafElement) (gap : ℕ) → AreEntriesOf b entries → IsGap b.file b.meta b.start entries i gap → new ≡ counted old gap

-- what `next` opens: before the first call as `first` does, and past the end nothing
abbrev pub OpensByNext : BucketView → Place → (old new : ℕ) → Type 0
OpensByNext b Fresh old new = OpensGap b 0 old new
OpensByNext b (On i) old new = OpensGap b (suc i) old new
OpensByNext b Past old new = new ≡ old

-- what a seek opens
abbrev pub OpensSeek : BucketView → Key → (old new : ℕ) → Type 0
OpensSeek b key old new = (entries : List LeafElement) (n : ℕ) → AreEntriesOf b entries → IsSeekCount b.file b.meta b.start entries key n → new ≡ counted old n

-- how deep a seek goes, and how often it compares
abbrev pub SeeksInBounds : BucketView → Key → (compared : ℕ) → Type 0
SeeksInBounds b key compared = (near : List ℕ) → IsNear b.file b.meta b.start key near → (1 + length near ≤ 64) × (compared ≤ 16 * (1 + length near))
