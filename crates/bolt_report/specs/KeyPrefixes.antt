-- The keys of a bucket that begin with given bytes: docs/COMMANDS.md, "keys".
use Rattle.std.specs.Prelude.{◌≡◌, ◌==◌, ◌+◌, ℕ, suc, Bool, List, filter, length}
use Rattle.std.specs.List.{starts_with}
use Rattle.bolt_format.specs.Elements.{LeafElement}
use Rattle.bolt_check.specs.{Keys.Key, Counts.counted}
use Rattle.bolt_tree.specs.{BucketViews.AreEntriesOf, BucketViews.BucketView, OpeningCounts.IsGap, OpeningCounts.IsSeekCount, OpeningCounts.sum_to}
use Rattle.bolt_tree.specs.{Places.least_from}

abbrev pub has_key_prefix : Key → LeafElement → Bool
has_key_prefix prefix e = starts_with (λ a b. a == b) e.key prefix

-- the entries whose keys begin with these bytes
abbrev pub with_prefix : Key → List LeafElement → List LeafElement
with_prefix prefix entries = filter (has_key_prefix prefix) entries

-- The pages that are opened for the entries with a prefix: those that a seek of it opens, and then those between each entry and the one after
-- it, or the bucket's end.
abbrev pub OpensPrefix : BucketView → Key → (old new : ℕ) → Type 0
OpensPrefix b prefix old new =
    (entries : List LeafElement) (seek : ℕ) (gap : ℕ → ℕ) → AreEntriesOf b entries → IsSeekCount b.file b.meta b.start entries prefix seek
    → ((i : ℕ) → IsGap b.file b.meta b.start entries i (gap i))
    → new ≡ counted old (seek + sum_to (λ i. gap (suc (least_from prefix entries + i))) (length (with_prefix prefix entries)))
