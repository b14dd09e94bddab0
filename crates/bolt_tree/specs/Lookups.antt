-- What a bucket has under a key: docs/LISTING.md, "A key in a bucket".
-- Over any relation that says which elements a bucket has.
use Rattle.std.specs.Prelude.{◌≡◌, ℕ, false, IsTrue, List, Option, Some, None}
use Rattle.bolt_format.specs.Elements.{LeafElement, head_sequence}
use Rattle.bolt_check.specs.Keys.{Key}
use Rattle.bolt_tree.specs.{Buckets.bucket_sequence, Buckets.bucket_start, Entries.AreEntries, Entries.Start, Entries.start_of, Places.Place}
use Rattle.bolt_tree.specs.{Places.entry_at, declared.bucket.Bucket.Bucket}

-- the entry with the key, or none has it
abbrev pub IsElementAt : (Start → LeafElement → Type 0) → Start → Key → Option LeafElement → Type 0
IsElementAt Entry bucket key (Some e) = ∥ Entry bucket e × (e.key ≡ key) ∥₁
IsElementAt Entry bucket key None = (e : LeafElement) → Entry bucket e → e.key ≡ key → ⊥

-- the value of an entry with the key; or no entry with the key is a value
abbrev pub IsValueAt : (Start → LeafElement → Type 0) → Start → Key → Option (List ℕ) → Type 0
IsValueAt Entry bucket key (Some value) = ∥ ((e : LeafElement) × Entry bucket e × (e.key ≡ key) × (e.is_bucket ≡ false) × (e.value ≡ value)) ∥₁
IsValueAt Entry bucket key None = (e : LeafElement) → Entry bucket e → e.key ≡ key → IsTrue e.is_bucket

-- the bucket of an entry with the key; or no entry with the key is a bucket
abbrev pub IsBucketAt : (Start → LeafElement → Type 0) → Start → Key → Option Bucket → Type 0
IsBucketAt Entry bucket key (Some inner) =
    ∥ ((e : LeafElement) × Entry bucket e × (e.key ≡ key) × IsTrue e.is_bucket × (bucket_start inner ≡ start_of e.value)
    × (bucket_sequence inner ≡ head_sequence e.value)) ∥₁
IsBucketAt Entry bucket key None = (e : LeafElement) → Entry bucket e → e.key ≡ key → e.is_bucket ≡ false

-- the bucket of an element; or it is a value, or there is none
abbrev pub IsBucketOf : Option LeafElement → Option Bucket → Type 0
IsBucketOf (Some e) (Some inner) = IsTrue e.is_bucket × (bucket_start inner ≡ start_of e.value) × (bucket_sequence inner ≡ head_sequence e.value)
IsBucketOf (Some e) None = e.is_bucket ≡ false
IsBucketOf None found = found ≡ None

-- the bucket of the entry at a place, whatever the bucket's entries in order are
abbrev pub IsBucketOn : (Start → LeafElement → Type 0) → Start → Place → Option Bucket → Type 0
IsBucketOn Entry bucket place found = (entries : List LeafElement) → AreEntries Entry bucket entries → IsBucketOf (entry_at entries place) found
