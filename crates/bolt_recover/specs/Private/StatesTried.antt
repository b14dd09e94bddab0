-- The states that were found among the places that were tried so far.
use Rattle.std.specs.Prelude.{◌≡◌, ◌↔◌, ◌<◌, ◌⊎◌, ℕ, Bool, List, Contains, Option, None, Some, length, map}
use Rattle.bolt_format.specs.declared.meta.Meta.{Meta}
use Rattle.bolt_recover.specs.{Private.Counting.IsCount, Recoveries.ForLosses, States.counted32}
use Rattle.bolt_recover.specs.{ShownStates.place_view, ShownStates.state_view, States.AreExactly, States.HasBucketsAlone, States.IsKept}
use Rattle.bolt_recover.specs.{States.IsLost, States.IsMetaRoot, States.IsRootPage, States.IsState}
use Rattle.bolt_recover.specs.{States.PlaceView, States.StateView, States.meta_at, declared.state.State.State, declared.states.States.States as FoundPage}

-- the state at a place, or everything is lost there
abbrev pub IsStateAt : List ℕ → PlaceView → Option State → Type 0
IsStateAt file place (Some state) = (place_view state.place ≡ place) × IsKept file (state_view state)
IsStateAt file place None = IsLost file place

-- the state at a place that has buckets alone, or it hasn't
abbrev pub IsBucketStateAt : List ℕ → PlaceView → Option State → Type 0
IsBucketStateAt file place (Some state) = HasBucketsAlone file (meta_at file place) × IsStateAt file place (Some state)
IsBucketStateAt file place None = HasBucketsAlone file (meta_at file place) → ⊥

-- exactly those at these places
pub record AreStatesAt (file : List ℕ) (places : List PlaceView) (found : FoundPage) : Type 0 where
  pub kept : AreExactly (λ (s : StateView). s.place) (λ s. Contains places s.place × IsKept file s) (map state_view found.kept.items)
  pub lost : AreExactly (λ (place : PlaceView). place) (λ place. Contains places place × IsLost file place) (map place_view found.lost.items)

-- the places that metas lead to, and the root pages below page n
abbrev pub IsTried : List ℕ → (page_size n : ℕ) → PlaceView → Type 0
IsTried file page_size n place = IsMetaRoot file place ⊎ (IsRootPage file page_size place × (place.root < n))

-- exactly the states at these are found
abbrev pub HasTried : List ℕ → (page_size n : ℕ) → FoundPage → Type 0
HasTried file page_size n found =
    (places : List PlaceView) × AreStatesAt file places found × ((place : PlaceView) → Contains places place ↔ IsTried file page_size n place)

-- exactly all states are found
abbrev pub HasTriedAll : List ℕ → (page_size : ℕ) → FoundPage → Type 0
HasTriedAll file page_size found =
    (places : List PlaceView) × AreStatesAt file places found × ((place : PlaceView) → Contains places place ↔ IsState file page_size place)

-- The state of a recovery that was counted. If buckets alone are wanted in the
-- root bucket, it has no value there; or there is no state, since it has one.
abbrev pub IsCountedState : List ℕ → Meta → (alone : Bool) → PlaceView → Option State → Type 0
IsCountedState file meta alone place (Some state) =
    (place_view state.place ≡ place) × ForLosses file meta (λ losses. state.losses ≡ counted32 (length losses)) × IsCount file meta alone (Some state.figures)
IsCountedState file meta alone place None = IsCount file meta alone None
