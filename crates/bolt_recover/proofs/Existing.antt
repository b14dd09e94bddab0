-- Each file has a survey, one recovered listing, losses and gaps, under each meta: those that all its events show.
use Rattle.std.proofs.Common.{◌≡◌, ℕ, List, refl, subst, sym}
use Rattle.bolt_recover.proofs.Words.{all_events, AreGaps, AreLosses, gaps_of, PageGapView, IsRecovered, IsRecoveredMember, IsSurvey, losses_of}
use Rattle.bolt_recover.proofs.Words.{LossView, Member, member_total, members_of, Meta, rises_once, SurveyedWay}
use Rattle.bolt_recover.proofs.{CourseSurveys.all_members, CourseSurveys.survey_of, CourseSurveys.surveyed, CourseTrees.members_rise}
use Rattle.bolt_recover.proofs.{SurveyIsOne.same_survey}

pub recovers : (file : List ℕ) (meta : Meta) → IsRecovered file meta (members_of (all_events file meta))
recovers file meta = record { survey = survey_of file meta; surveys = surveyed file meta; rises = members_rise file meta; exact = all_members file meta }

pub one_recovered : (file : List ℕ) (meta : Meta) (a b : List Member) → IsRecovered file meta a → IsRecovered file meta b → a ≡ b
one_recovered file meta a b h k =
    let same = same_survey file meta h.survey k.survey h.surveys k.surveys in
    rises_once member_total a b h.rises k.rises
    (λ m in_a. (k.exact m.0 m.1).1 (subst (λ (s : List SurveyedWay). IsRecoveredMember file meta s m.0 m.1) same ((h.exact m.0 m.1).0 in_a)))
    (λ m in_b. (h.exact m.0 m.1).1 (subst (λ (s : List SurveyedWay). IsRecoveredMember file meta s m.0 m.1) (sym same) ((k.exact m.0 m.1).0 in_b)))

pub has_survey : (file : List ℕ) (meta : Meta) → (survey : List SurveyedWay) × IsSurvey file meta survey
has_survey file meta = (survey_of file meta, surveyed file meta)

pub has_recovered : (file : List ℕ) (meta : Meta) → (listing : List Member) × IsRecovered file meta listing
has_recovered file meta = (members_of (all_events file meta), recovers file meta)

pub has_losses : (file : List ℕ) (meta : Meta) → (losses : List LossView) × AreLosses file meta losses
has_losses file meta = (losses_of file meta (survey_of file meta), (survey_of file meta, surveyed file meta, refl))

pub has_gaps : (file : List ℕ) (meta : Meta) → (gaps : List PageGapView) × AreGaps file meta gaps
has_gaps file meta = (gaps_of file meta (survey_of file meta), (survey_of file meta, surveyed file meta, refl))
