-- An element of the code as one of the format, and where its parts lie.
use Rattle.std.specs.Prelude.{◌≡◌, ℕ, List}
use Rattle.bolt_format.specs.Elements.{BranchElement, LeafElement, branch_end, branch_key_start, leaf_end, leaf_key_start, leaf_value_start}
use Rattle.bolt_format.specs.{declared.element.Branch.Branch, declared.element.BranchPlace.BranchPlace, declared.element.Leaf.Leaf}
use Rattle.bolt_format.specs.{declared.element.LeafPlace.LeafPlace}

pub record IsBranchPlace (bytes : List ℕ) (i : ℕ) (place : BranchPlace) : Type 0 where
  pub key : place.key ≡ branch_key_start bytes i
  pub end : place.end ≡ branch_end bytes i

pub record IsLeafPlace (bytes : List ℕ) (i : ℕ) (place : LeafPlace) : Type 0 where
  pub key : place.key ≡ leaf_key_start bytes i
  pub value : place.value ≡ leaf_value_start bytes i
  pub end : place.end ≡ leaf_end bytes i

abbrev pub branch_view : Branch → BranchElement
branch_view branch = record { key = branch.key.now; child = branch.child }

abbrev pub leaf_view : Leaf → LeafElement
leaf_view leaf = record { key = leaf.key.now; value = leaf.value.now; is_bucket = leaf.is_bucket }
