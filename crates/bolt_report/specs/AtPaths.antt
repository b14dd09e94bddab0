-- What members hold at a path.
use Rattle.std.specs.Prelude.{◌≡◌, Contains, IfSome, List, ℕ}
use Rattle.std.specs.Option.{IfNone}
use Rattle.bolt_tree.specs.{Entries.Value, Listing.Member, ListingParts.has_bucket, Paths.Path, Paths.path_above}
use Rattle.bolt_report.specs.declared.at_path.AtPath.{AtPath}

-- what these members hold at a path
pub record HoldsNow (members : List Member) (path : Path) (at : AtPath) : Type 0 where
  pub value : IfSome at.value (λ value. Contains members (path, Value value.now))
  pub none : IfNone at.value ((value : List ℕ) → Contains members (path, Value value) → ⊥)
  pub bucket : at.has_bucket ≡ has_bucket (path_above path) members
