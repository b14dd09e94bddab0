-- How many pages are visited: docs/RECOVERY.md, "The recovering walk".
use Rattle.std.specs.Prelude.{◌≡◌, ℕ, Bool, true, false, List, Option, Some, None, count_by}
use Rattle.bolt_format.specs.declared.meta.Meta.{Meta}
use Rattle.bolt_check.specs.{Nodes.node_at, Ways.At_inline, Ways.At_page, Ways.Reach, Ways.Spot, Ways.reached}
use Rattle.bolt_recover.specs.Surveys.{IsSurvey, SurveyedWay}

-- a way leads to a page number; an inline page has none
abbrev pub is_at_page : Option Spot → Bool
is_at_page None = false
is_at_page (Some (At_page s)) = true
is_at_page (Some (At_inline host inner)) = false

-- how many ways of a survey lead to page numbers
abbrev pub page_ways : Reach → List SurveyedWay → ℕ
page_ways reach survey = count_by (λ (v : SurveyedWay). is_at_page (reach v.way)) survey

-- the number of ways to page numbers of a file under a meta
abbrev pub ArePageWays : List ℕ → Meta → ℕ → Type 0
ArePageWays file meta n = (survey : List SurveyedWay) × IsSurvey file meta survey × (n ≡ page_ways (reached (node_at file meta) meta.root) survey)

-- What is promised of this number is promised for each; there is exactly one, as there is one survey (`laws`).
abbrev pub ForPageWays : List ℕ → Meta → (ℕ → Type 0) → Type 0
ForPageWays file meta P = (n : ℕ) → ArePageWays file meta n → P n
