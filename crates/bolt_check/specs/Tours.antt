-- The tour of a bucket: all ways that lead somewhere, in their order.
use Rattle.std.specs.Prelude.{◌≡◌, ℕ, List, Some}
use Rattle.bolt_lemmas.specs.Lists.{Has, RisesBy}
use Rattle.bolt_check.specs.{Ways.Before, Ways.Reach, Ways.Spot}

-- the rising list of exactly the ways that lead somewhere
pub record IsTour (reach : Reach) (tour : List (List ℕ)) : Type 0 where
  pub rises : RisesBy Before tour
  pub all : (way : List ℕ) (s : Spot) → reach way ≡ Some s → Has tour way
  pub only : (way : List ℕ) → Has tour way → (s : Spot) × (reach way ≡ Some s)
