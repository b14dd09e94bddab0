-- What is reported of a lost way: docs/RECOVERY.md, "Losses".
use Rattle.std.specs.Prelude.{◌≡◌, ℕ, Bool, true, false, List, [], ◌∷◌, ◌++◌, Option, Some, None}
use Rattle.bolt_format.specs.declared.meta.Meta.{Meta}
use Rattle.bolt_check.specs.{Keys.Key, Ways.At_inline, Ways.At_page, Ways.Spot, declared.finding.Finding.Finding}
use Rattle.bolt_tree.specs.Paths.{Path}
use Rattle.bolt_recover.specs.{Sites.Site, Sites.site_at, Surveys.IsSurvey, Surveys.SurveyedWay}

-- The finding, the path of the bucket that the way lies in, and the bounds that were handed down to a page below a branch.
pub record LossView : Type 0 where
  pub finding : Finding
  pub bucket : Path
  pub lower : Option Key
  pub upper : Option Key

abbrev pub lower_of : Spot → Option Key
lower_of (At_page s) = s.lower
lower_of (At_inline host inner) = None

abbrev pub upper_of : Spot → Option Key
upper_of (At_page s) = s.upper
upper_of (At_inline host inner) = None

abbrev pub loss_on : Path → Spot → Finding → LossView
loss_on path s x = record { finding = x; bucket = path; lower = lower_of s; upper = upper_of s }

abbrev pub loss_of : Site → Finding → LossView
loss_of p x = loss_on p.path p.spot x

abbrev pub loss_at : Option Site → Option Finding → List LossView
loss_at None found = []
loss_at (Some p) None = []
loss_at (Some p) (Some x) = loss_of p x ∷ []

-- the losses of a survey, in the order of ways
abbrev pub losses_of : List ℕ → Meta → List SurveyedWay → List LossView
losses_of file meta [] = []
losses_of file meta (v ∷ survey) = loss_at (site_at file meta v.way) v.found ++ losses_of file meta survey

-- the losses of a file under a meta
abbrev pub AreLosses : List ℕ → Meta → List LossView → Type 0
AreLosses file meta losses = (survey : List SurveyedWay) × IsSurvey file meta survey × (losses ≡ losses_of file meta survey)

-- What is lost: everything, since the root page is lost with this finding; or what these losses say
pub data LostView : Type 0 where
  everything : Finding → LostView
  parts : List LossView → LostView

abbrev pub is_nothing : LostView → Bool
is_nothing (everything x) = false
is_nothing (parts []) = true
is_nothing (parts (loss ∷ losses)) = false
