-- Which kept pages have a gap: docs/SOUND.md, "Gaps".
use Rattle.std.specs.Prelude.{◌≡◌, ℕ, List, [], ◌∷◌, ◌++◌, Option, Some, None}
use Rattle.bolt_format.specs.{Gaps.GapView, Gaps.gap_view, Gaps.page_gap, declared.meta.Meta.Meta}
use Rattle.bolt_check.specs.{Nodes.node_at, Ways.At_inline, Ways.At_page, Ways.Spot, Ways.reached, declared.finding.Finding.Finding}
use Rattle.bolt_recover.specs.{Surveys.IsSurvey, Surveys.SurveyedWay, declared.page_gaps.PageGap.PageGap}

-- The first gap of a page, with the number of the page. That of the page of an inline bucket has the number of the page that contains the bucket.
pub record PageGapView : Type 0 where
  pub page : ℕ
  pub gap : GapView

abbrev pub gap_on : ℕ → Option GapView → List PageGapView
gap_on page None = []
gap_on page (Some gap) = record { page = page; gap = gap } ∷ []

abbrev pub spot_gap : List ℕ → Meta → Spot → List PageGapView
spot_gap file meta (At_page s) = gap_on s.number (page_gap file meta s.number)
spot_gap file meta (At_inline host inner) = gap_on host inner.gap

-- the gap at what a way leads to, if the way is kept
abbrev pub kept_gap : List ℕ → Meta → Option Spot → Option Finding → List PageGapView
kept_gap file meta (Some s) None = spot_gap file meta s
kept_gap file meta (Some s) (Some x) = []
kept_gap file meta None found = []

-- the gaps at the ways of a survey, in their order
abbrev pub gaps_of : List ℕ → Meta → List SurveyedWay → List PageGapView
gaps_of file meta [] = []
gaps_of file meta (v ∷ survey) = kept_gap file meta (reached (node_at file meta) meta.root v.way) v.found ++ gaps_of file meta survey

-- the gaps of a file under a meta
abbrev pub AreGaps : List ℕ → Meta → List PageGapView → Type 0
AreGaps file meta gaps = (survey : List SurveyedWay) × IsSurvey file meta survey × (gaps ≡ gaps_of file meta survey)

-- What is promised of the gaps of a file is promised for each list of them; there is exactly one (`laws`).
abbrev pub ForGaps : List ℕ → Meta → (List PageGapView → Type 0) → Type 0
ForGaps file meta P = (gaps : List PageGapView) → AreGaps file meta gaps → P gaps

-- ---- of the code

abbrev pub page_gap_view : PageGap → PageGapView
page_gap_view found = record { page = found.page; gap = gap_view found.gap }
