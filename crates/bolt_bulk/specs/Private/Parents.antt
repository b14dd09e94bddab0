-- The buckets around the one that a pass is in, the innermost first: of each the key that leads further in, and the entries after that one.
use Rattle.std.specs.Prelude.{List, [], ◌∷◌, ◌++◌}
use Rattle.bolt_check.specs.Keys.{Key}
use Rattle.bolt_tree.specs.{Listing.Member, Paths.Path, Tree.Tree, Tree.listing_below}

pub record Parent : Type 0 where
  pub key : Key
  pub after : Tree

-- the path of the bucket within
abbrev pub path_in : List Parent → Path
path_in [] = []
path_in (parent ∷ parents) = path_in parents ++ parent.key ∷ []

-- what comes after that bucket
abbrev pub behind_in : List Parent → List Member
behind_in [] = []
behind_in (parent ∷ parents) = listing_below (path_in parents) parent.after ++ behind_in parents

-- what comes, if these entries of that bucket are still to come
abbrev pub left_in : List Parent → Tree → List Member
left_in parents rest = listing_below (path_in parents) rest ++ behind_in parents
