-- The part of a listing after a path: all of it, or all but what begins with the path: docs/LISTING.md, "The walk". That is what a walk has
-- left while its cursors are on the keys of the path.
use Rattle.std.specs.Prelude.{Bool, true, false, List, [], ◌∷◌, filter}
use Rattle.std.specs.{Ordering.is_lt, declared.cmp.Ordering.Ordering, declared.cmp.Ordering.TheVariants.Less, declared.cmp.Ordering.TheVariants.Equal}
use Rattle.std.specs.{declared.cmp.Ordering.TheVariants.Greater}
use Rattle.bolt_check.specs.Keys.{key_cmp}
use Rattle.bolt_tree.specs.{Listing.Member, Paths.Path, Paths.path_cmp}

abbrev pub by_first : Ordering → Bool → Bool
by_first Less rest = true
by_first Equal rest = rest
by_first Greater rest = false

-- a path comes after another, and after everything that begins with the other: at the first part where they differ, its own is greater
abbrev pub is_beyond : Path → Path → Bool
is_beyond [] q = false
is_beyond (key ∷ path) [] = false
is_beyond (key ∷ path) (other ∷ q) = by_first (key_cmp key other) (is_beyond path q)

-- the members after a path: all of them, and those that don't begin with it
abbrev pub rest_after : Path → List Member → List Member
rest_after path listing = filter (λ m. is_lt (path_cmp path m.0)) listing

abbrev pub beyond : Path → List Member → List Member
beyond path listing = filter (λ m. is_beyond path m.0) listing
