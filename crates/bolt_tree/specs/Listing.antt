-- The listing of a file's tree, and its rest from a path: docs/LISTING.md, "The listing".
-- The rising list of all paths with their items, over the order and the items of Paths.
use Rattle.std.specs.Prelude.{◌↔◌, List, ℕ, filter, Contains, not}
use Rattle.std.specs.{Ordering.is_lt, declared.cmp.Ordering.Ordering}
use Rattle.bolt_lemmas.specs.Order.{Rises}
use Rattle.bolt_format.specs.{Elements.LeafElement, declared.meta.Meta.Meta}
use Rattle.bolt_tree.specs.{Entries.IsEntry, Entries.Item, Entries.Root_page, Entries.Start, Paths.Holds, Paths.Path, Paths.path_cmp}

-- a path with its item
abbrev pub Member : Type 0
Member = Path × Item

abbrev pub member_cmp : Member → Member → Ordering
member_cmp a b = path_cmp a.0 b.0

-- the rising list whose members are exactly the paths below a bucket with their items
pub record Lists (Entry : Start → LeafElement → Type 0) (from : Start) (listing : List Member) : Type 0 where
  pub rises : Rises member_cmp listing
  pub exact : (path : Path) (item : Item) → Contains listing (path, item) ↔ Holds Entry from path item

-- the listing of a file's tree under a meta
abbrev pub IsListing : List ℕ → Meta → List Member → Type 0
IsListing file meta listing = Lists (IsEntry file meta) (Root_page meta.root) listing

-- the members whose paths don't come before this one, in order
abbrev pub rest_from : Path → List Member → List Member
rest_from path listing = filter (λ m. not (is_lt (path_cmp m.0 path))) listing
