-- Trees that a file can hold: docs/LAYOUT.md, "Trees that can be stored".
use Rattle.std.specs.Prelude.{◌≡◌, ◌<◌, ◌^◌, List, [], ◌∷◌, ◌++◌, Contains, length}
use Rattle.bolt_lemmas.specs.Order.{Rises}
use Rattle.bolt_format.specs.ElementLengths.{IsKeyLength, IsValueLength}
use Rattle.bolt_check.specs.Keys.{Key, key_cmp}
use Rattle.bolt_tree.specs.{Entries.Bucket, Entries.Item, Entries.Value, Listing.Member, Listing.member_cmp, Paths.Path}
use Rattle.bolt_tree.specs.Tree.{Tree, end, listing_of, with_value, with_bucket}

-- the keys of the outermost bucket
abbrev pub keys_in : Tree → List Key
keys_in end = []
keys_in (with_value key value after) = key ∷ keys_in after
keys_in (with_bucket key sequence inside after) = key ∷ keys_in after

-- keys and values of lengths that the format allows, and sequences of 64 bits
abbrev pub HasLengths : Tree → Type 0
HasLengths end = Unit {0}
HasLengths (with_value key value after) = IsKeyLength (length key) × IsValueLength (length value) × HasLengths after
HasLengths (with_bucket key sequence inside after) = IsKeyLength (length key) × (sequence < 2 ^ 64) × HasLengths inside × HasLengths after

-- the keys of each bucket further in rise
abbrev pub RisesInside : Tree → Type 0
RisesInside end = Unit {0}
RisesInside (with_value key value after) = RisesInside after
RisesInside (with_bucket key sequence inside after) = Rises key_cmp (keys_in inside) × RisesInside inside × RisesInside after

pub record IsStorable (tree : Tree) : Type 0 where
  pub lengths : HasLengths tree
  pub rising : Rises key_cmp (keys_in tree)
  pub rising_inside : RisesInside tree

-- a value of a length that the format allows, or a sequence of 64 bits
abbrev pub IsFitItem : Item → Type 0
IsFitItem (Value value) = IsValueLength (length value)
IsFitItem (Bucket sequence) = sequence < 2 ^ 64

-- a member that the format can hold: its item fits, and so does the key that is the last part of its path
abbrev pub IsFitMember : Path → Item → Type 0
IsFitMember path item = ((front : Path) (key : Key) → path ≡ front ++ key ∷ [] → IsKeyLength (length key)) × IsFitItem item

-- what a tree lists, each member once, in the order of paths, if the format can hold each member
pub record IsFitListing (listing : List Member) : Type 0 where
  pub tree : Tree
  pub lists : listing ≡ listing_of tree
  pub rises : Rises member_cmp listing
  pub fit : (path : Path) (item : Item) → Contains listing (path, item) → IsFitMember path item
