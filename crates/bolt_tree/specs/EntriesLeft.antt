-- The entries that a cursor has ahead of it: docs/LISTING.md, "A key in a bucket". What is promised of the entries is promised for each
-- list of them in order; there is exactly one (`laws`).
use Rattle.std.specs.Prelude.{List, [], drop, suc}
use Rattle.bolt_format.specs.Elements.{LeafElement}
use Rattle.bolt_check.specs.declared.checked.Checked.{Checked}
use Rattle.bolt_tree.specs.{BucketViews.entries_of, Buckets.bucket_checked, Buckets.bucket_start, Entries.AreEntries, Entries.Start, Places.Fresh}
use Rattle.bolt_tree.specs.{Places.On, Places.Past, Places.Place, declared.bucket.Bucket.Bucket}

-- a property holds of the entries of the bucket that begins at `start`, in order
abbrev pub ForEntries : Checked → Start → (List LeafElement → Type 0) → Type 0
ForEntries checked start P = (entries : List LeafElement) → AreEntries (entries_of checked) start entries → P entries

-- a property holds of a bucket's entries
abbrev pub ForBucket : Bucket → (List LeafElement → Type 0) → Type 0
ForBucket bucket P = ForEntries (bucket_checked bucket) (bucket_start bucket) P

-- the entries after a cursor's place
abbrev pub entries_left : List LeafElement → Place → List LeafElement
entries_left entries Fresh = entries
entries_left entries (On i) = drop (suc i) entries
entries_left entries Past = []
