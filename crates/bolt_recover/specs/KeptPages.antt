-- The pages that kept ways take in: docs/RECOVERY.md, "Found pages".
use Rattle.std.specs.Prelude.{◌≡◌, ◌↔◌, ℕ, ◌⊎◌, Bool, true, List}
use Rattle.bolt_lemmas.specs.Lists.{Has}
use Rattle.bolt_format.specs.declared.meta.Meta.{Meta}
use Rattle.bolt_check.specs.{Findings.IsMetaPage, Nodes.node_at, Ways.SpanHas, Ways.reached}
use Rattle.bolt_recover.specs.Surveys.{ForSurvey, SurveyedWay, way_kept}

-- page n is a meta page, or lies in the span of a kept way
abbrev pub IsKeptPage : List ℕ → Meta → List SurveyedWay → ℕ → Type 0
IsKeptPage file meta survey n =
    IsMetaPage n ⊎ ((way : List ℕ) × (Has survey (way_kept way) × SpanHas (node_at file meta) (reached (node_at file meta) meta.root way) n))

-- the claimed pages are those that kept ways take in, for the one survey of the file (`laws`)
abbrev pub AreKeptPages : List ℕ → Meta → (ℕ → Bool) → Type 0
AreKeptPages file meta claimed = ForSurvey file meta (λ survey. (n : ℕ) → (claimed n ≡ true) ↔ IsKeptPage file meta survey n)
