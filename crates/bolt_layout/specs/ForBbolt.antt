-- What bbolt can write: docs/LAYOUT.md, "What holds of both layouts". No value is in the root bucket, and none under a key of more than 32,768
-- bytes.
use Rattle.std.specs.Prelude.{◌≡◌, ◌<◌, ◌^◌, ◌⊎◌, ℕ, false, List, [], ◌∷◌, ◌++◌, Contains, length}
use Rattle.bolt_check.specs.{BboltFindings.AreBboltFindings, BboltFindings.is_too_large, Keys.Key, Nodes.node_at, declared.finding.Finding.Finding}
use Rattle.bolt_check.specs.{declared.finding.TheConstants.Finding.LARGE_KEY, declared.finding.TheConstants.Finding.ONE_CHILD}
use Rattle.bolt_check.specs.{declared.finding.TheConstants.Finding.ROOT_VALUE}
use Rattle.bolt_tree.specs.{Entries.Value, Listing.Member, Paths.Path, Tree.Tree, Tree.end, Tree.tree_of, Tree.with_bucket, Tree.with_value}
use Rattle.bolt_layout.specs.{Copies.IsAsked, Copies.IsOfOneTree, Layout.layout_meta, Layout.layout_of, Layout.layout_root, declared.Layout.Layout}
use Rattle.bolt_layout.specs.{declared.Layout.TheVariants.Balanced, declared.Layout.TheVariants.Plain}

-- the names of buckets may have any length
abbrev pub HasShortKeys : Tree → Type 0
HasShortKeys end = Unit {0}
HasShortKeys (with_value key value after) = (is_too_large key ≡ false) × HasShortKeys after
HasShortKeys (with_bucket key sequence inside after) = HasShortKeys inside × HasShortKeys after

-- the outermost bucket holds buckets alone
abbrev pub HoldsBuckets : Tree → Type 0
HoldsBuckets end = Unit {0}
HoldsBuckets (with_value key value after) = ⊥
HoldsBuckets (with_bucket key sequence inside after) = HoldsBuckets after

-- the last key of the path of each value is short, and no value has a path of one key
pub record IsForBbolt (listing : List Member) : Type 0 where
  pub short : (path : Path) (key : Key) (value : List ℕ) → Contains listing (path ++ key ∷ [], Value value) → is_too_large key ≡ false
  pub inner : (key value : List ℕ) → Contains listing (key ∷ [], Value value) → ⊥

-- a branch of one child
abbrev pub IsOneChild : Finding → Type 0
IsOneChild x = x.number ≡ ONE_CHILD

-- What a listing brings: a value in the root bucket, or one under a key that is too large. The plain layout adds branches of one child.
abbrev pub IsOfLayout : Layout → Finding → Type 0
IsOfLayout Balanced x = (x.number ≡ ROOT_VALUE) ⊎ (x.number ≡ LARGE_KEY)
IsOfLayout Plain x = IsOneChild x ⊎ ((x.number ≡ ROOT_VALUE) ⊎ (x.number ≡ LARGE_KEY))

-- A property holds of what is found on the ways of each layout of a listing, if the layout has fewer than 2^63 bytes.
abbrev pub ForLayoutFindings : (Layout → List Member → List Finding → Type 0) → Type 0
ForLayoutFindings P = (which : Layout) (listing : List Member) (page_size sequence : ℕ) → IsOfOneTree listing → IsAsked page_size (tree_of listing) sequence
    → length (layout_of which page_size (tree_of listing) sequence) < 2 ^ 63 → (findings : List Finding)
    → AreBboltFindings (node_at (layout_of which page_size (tree_of listing) sequence) (layout_meta which page_size (tree_of listing) sequence 1))
    (layout_root which page_size (tree_of listing)) findings → P which listing findings

-- a property holds of what is found on the ways of each layout of a listing that bbolt can write
abbrev pub ForBboltFindings : (Layout → List Finding → Type 0) → Type 0
ForBboltFindings P = ForLayoutFindings (λ which listing findings. IsForBbolt listing → P which findings)
