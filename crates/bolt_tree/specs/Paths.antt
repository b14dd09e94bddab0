-- Paths: the keys from one bucket down, and what they hold: docs/LISTING.md, "Paths".
-- Over any relation that says which elements a bucket has.
use Rattle.std.specs.Prelude.{◌≡◌, ◌-◌, ℕ, List, [], ◌∷◌, IsTrue, length, map, take}
use Rattle.std.specs.{Borrow.Bor, Cmp.Lexicographic.slice_cmp, declared.cmp.Ordering.Ordering}
use Rattle.bolt_format.specs.Elements.{LeafElement}
use Rattle.bolt_check.specs.Keys.{key_cmp}
pub use Rattle.bolt_check.specs.Keys.{Key}
use Rattle.bolt_tree.specs.Entries.{AreEntries, Item, Start, item_of, start_of}

abbrev pub Path : Type 0
Path = List Key

-- the path of the bucket that a path is in: all parts but the last
abbrev pub path_above : Path → Path
path_above path = take (length path - 1) path

-- the last of some keys, as of a path; no bytes if there is none
abbrev pub last_key : List Key → Key
last_key [] = []
last_key (key ∷ []) = key
last_key (key ∷ next ∷ keys) = last_key (next ∷ keys)

-- part by part in byte order; a path comes before those that it is a prefix of
abbrev pub path_cmp : Path → Path → Ordering
path_cmp = slice_cmp key_cmp

-- a path leads from a bucket to one that its last part names; the empty path stays
abbrev pub Names : (Start → LeafElement → Type 0) → Start → Path → Start → Type 0
Names Entry from [] bucket = from ≡ bucket
Names Entry from (key ∷ path) bucket = (e : LeafElement) × Entry from e × (e.key ≡ key) × IsTrue e.is_bucket × Names Entry (start_of e.value) path bucket

-- A path of at least one key holds an item: its first key is an entry of the bucket, each later one is an entry of the bucket that the
-- key before it names, and the item is that of the last.
abbrev pub Holds : (Start → LeafElement → Type 0) → Start → Path → Item → Type 0
Holds Entry from [] item = ⊥
Holds Entry from (key ∷ []) item = (e : LeafElement) × Entry from e × (e.key ≡ key) × (item_of e ≡ item)
Holds Entry from (key ∷ next ∷ path) item = (e : LeafElement) × Entry from e × (e.key ≡ key) × IsTrue e.is_bucket
    × Holds Entry (start_of e.value) (next ∷ path) item

-- each bucket that a path leads to has its entries in order
abbrev pub HasEntries : (Start → LeafElement → Type 0) → Start → Type 0
HasEntries Entry from = (path : Path) (bucket : Start) → Names Entry from path bucket → (entries : List LeafElement) × AreEntries Entry bucket entries

-- the path that the code holds as slices
abbrev pub path_of : List (Bor (List ℕ)) → Path
path_of parts = map (λ (part : Bor (List ℕ)). part.now) parts
