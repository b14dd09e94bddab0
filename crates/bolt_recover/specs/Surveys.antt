-- What is kept and what is lost of a damaged file: docs/RECOVERY.md, "Kept and lost".
use Rattle.std.specs.Prelude.{◌≡◌, ℕ, ◌⊎◌, List, [], ◌∷◌, ◌++◌, Option, Some, None, map}
use Rattle.bolt_lemmas.specs.Lists.{Has, RisesBy}
use Rattle.bolt_format.specs.declared.meta.Meta.{Meta}
use Rattle.bolt_check.specs.{Findings.IsMetaPage, Findings.Passes, Findings.Tests, Nodes.Nodes, Nodes.node_at}
use Rattle.bolt_check.specs.{Ways.Before, Ways.Reach, Ways.SpanHas, Ways.Spot, Ways.reached, declared.finding.Finding.Finding}

-- A way and what the tests find at it: nothing if the way is kept, and a finding if it is lost.
pub record SurveyedWay : Type 0 where
  pub way : List ℕ
  pub found : Option Finding

abbrev pub way_kept : List ℕ → SurveyedWay
way_kept way = record { way = way; found = None }

abbrev pub lost : List ℕ → Finding → SurveyedWay
lost way x = record { way = way; found = Some x }

-- the empty way, or one whose parent is kept
abbrev pub IsOpen : List SurveyedWay → List ℕ → Type 0
IsOpen survey way = (way ≡ []) ⊎ ((parent : List ℕ) × (i : ℕ) × (way ≡ parent ++ i ∷ []) × Has survey (way_kept parent))

-- page n is a meta page, or lies in the span of a kept way before this one
abbrev pub IsClaimedIn : Nodes → Reach → List SurveyedWay → List ℕ → ℕ → Type 0
IsClaimedIn nodes reach survey way n = IsMetaPage n ⊎ ((v : List ℕ) × (Has survey (way_kept v) × Before v way × SpanHas nodes (reach v) n))

-- what the tests of a spot find, if these pages were claimed before
abbrev pub Gives : Nodes → (ℕ → Type 0) → Spot → Option Finding → Type 0
Gives nodes before spot None = Passes nodes before spot
Gives nodes before spot (Some x) = Tests nodes before spot x

-- The ways whose parents are kept, and the empty way, each with what the tests find there; test 18 looks at the kept ways before.
pub record Surveys (nodes : Nodes) (reach : Reach) (survey : List SurveyedWay) : Type 0 where
  pub rises : RisesBy Before (map (λ (v : SurveyedWay). v.way) survey)
  pub only : (v : SurveyedWay) → Has survey v
      → IsOpen survey v.way × ((spot : Spot) × (reach v.way ≡ Some spot) × Gives nodes (IsClaimedIn nodes reach survey v.way) spot v.found)
  pub all : (way : List ℕ) (spot : Spot) → IsOpen survey way → reach way ≡ Some spot
      → (found : Option Finding) × Has survey (record { way = way; found = found })

-- the survey of a file under a meta
abbrev pub IsSurvey : List ℕ → Meta → List SurveyedWay → Type 0
IsSurvey file meta survey = Surveys (node_at file meta) (reached (node_at file meta) meta.root) survey

-- no way of a survey is lost
abbrev pub LosesNothing : List SurveyedWay → Type 0
LosesNothing survey = (v : SurveyedWay) → Has survey v → v.found ≡ None

-- no way before this one is lost
abbrev pub LosesNothingBefore : List ℕ → List SurveyedWay → Type 0
LosesNothingBefore way survey = (v : SurveyedWay) → Has survey v → Before v.way way → v.found ≡ None

-- a property holds of the survey of a file under a meta
abbrev pub ForSurvey : List ℕ → Meta → (List SurveyedWay → Type 0) → Type 0
ForSurvey file meta P = (survey : List SurveyedWay) → IsSurvey file meta survey → P survey

-- a property holds of each file, each meta and the survey of that file under it
abbrev pub ForSurveys : (List ℕ → Meta → List SurveyedWay → Type 0) → Type 0
ForSurveys P = (file : List ℕ) (meta : Meta) → ForSurvey file meta (P file meta)

-- a property holds of each file, each meta, the survey of that file, and each of its lost ways with what is found there
abbrev pub ForLostWays : (List ℕ → Meta → List SurveyedWay → List ℕ → Finding → Type 0) → Type 0
ForLostWays P = (file : List ℕ) (meta : Meta) (survey : List SurveyedWay) (way : List ℕ) (x : Finding)
    → IsSurvey file meta survey → Has survey (lost way x) → P file meta survey way x
