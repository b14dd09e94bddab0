-- The pages that a search finds, in any case or only if something is lost.
use Rattle.std.proofs.Common.{◌≡◌, ◌∙◌, inl, inr, ℕ, Bool, true, false, List, [], ◌∷◌, refl, subst}
use Rattle.bolt_recover.proofs.Words.{AreFound, AreFoundInAnyCase, AreSought, everything, FoundBelow, IsKeptPage, IsSurvey, LosesNothing}
use Rattle.bolt_recover.proofs.Words.{losses_of, Meta, parts, SurveyedWay}
use Rattle.bolt_recover.proofs.{Existing.has_survey, FoundAll.loses_root, FoundAll.lost_or_none, FoundAll.one_found, FoundExists.below_exists}
use Rattle.bolt_recover.proofs.{FoundExists.has_found, FoundLemmas.found_one, LostWays.no_losses, SurveyIsOne.same_survey}
use Rattle.bolt_recover.specs.{Losses.LostView, Losses.is_nothing, Lost.IsAllLost}

one_in_any_case : (file : List ℕ) (meta : Meta) (a b : List ℕ) → AreFoundInAnyCase file meta a → AreFoundInAnyCase file meta b → a ≡ b
one_in_any_case file meta a b h k =
    let same = same_survey file meta k.survey h.survey k.surveys h.surveys in
    found_one file meta (IsKeptPage file meta h.survey) meta.high_water a b h.all
    (subst (λ (survey : List SurveyedWay). FoundBelow file meta (IsKeptPage file meta survey) meta.high_water b) same k.all)

pub one_sought : (file : List ℕ) (meta : Meta) (in_any_case : Bool) (a b : List ℕ) → AreSought file meta in_any_case a
    → AreSought file meta in_any_case b → a ≡ b
one_sought file meta true a b h k = one_in_any_case file meta a b h k
one_sought file meta false a b h k = one_found file meta a b h k

pub has_sought : (file : List ℕ) (meta : Meta) (in_any_case : Bool) → (found : List ℕ) × AreSought file meta in_any_case found
has_sought file meta true =
    let (survey, is) = has_survey file meta in
    let (found, below) = below_exists file meta survey is meta.high_water in
    (found, record { survey = survey; surveys = is; all = below })
has_sought file meta false = has_found file meta

-- if something is lost, a way is lost
loses_some : (file : List ℕ) (meta : Meta) (lost : LostView) (survey : List SurveyedWay) → IsAllLost file meta lost → is_nothing lost ≡ false
    → IsSurvey file meta survey → LosesNothing survey → ⊥
loses_some file meta (everything x) survey loses some is none = loses_root file meta x loses survey is none
loses_some file meta (parts []) survey loses some is none = cc
loses_some file meta (parts (loss ∷ losses)) survey (kept, are) some is none =
    let same = are (losses_of file meta survey) (survey, is, refl) in
    let wrong : loss ∷ losses ≡ [] = same ∙ no_losses file meta survey none in
    cc

pub found_in_any_case_if_lost : (file : List ℕ) (meta : Meta) (lost : LostView) (found : List ℕ) → IsAllLost file meta lost → is_nothing lost ≡ false
    → AreFound file meta found
    → AreFoundInAnyCase file meta found
found_in_any_case_if_lost file meta lost found loses some are = elim (lost_or_none are.survey) [
  | inl none ↦ absurd (loses_some file meta lost are.survey loses some are.surveys none)
  | inr (way, x, has) ↦ record { survey = are.survey; surveys = are.surveys; all = are.some way x has }
]
