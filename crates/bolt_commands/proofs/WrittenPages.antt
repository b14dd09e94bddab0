-- If `check --all` finds nothing, the pages of the trees are what is written for their elements.
use Rattle.std.proofs.Common.{◌≡◌, ℕ, false, List, [], ◌∷◌, Option, Some, None, ap, arith, codes, inl, inr, refl, subst, sym}
use Rattle.bolt_lemmas.proofs.Exports.{append_none}
use Rattle.bolt_lemmas.specs.Lists.{Has}
use Rattle.bolt_commands.proofs.Vocabulary.{Answer, AnswersLost, AreGaps, AreLosses, FileFaults, FoundView, HasNoGaps, HasSoundTrees, IsMetaOf}
use Rattle.bolt_commands.proofs.Vocabulary.{LostView, Meta, MetaChoice, PageGapView, check_refusal, done, everything, gaps_of, has_losses, node_at}
use Rattle.bolt_commands.proofs.Vocabulary.{parts}
use Rattle.bolt_check.specs.Ways.{At_inline, At_page, Spot, reached}
use Rattle.bolt_check.specs.declared.check_fault.CheckFault.{CheckFault}
use Rattle.bolt_check.specs.declared.check_fault.CheckFault.TheVariants as check
use Rattle.bolt_commands.specs.{Answers.status_of, EtcdAnswers.IsCheckAllAnswer}
use Rattle.bolt_commands.proofs.ReadFiles.{choice_page_size}
use Rattle.bolt_format.specs.{Bytes.IsBytes, Gaps.GapView, Metas.IsPageSize}
use Rattle.bolt_layout.specs.{AsWritten.IsAsWritten, NoGaps.HasNoGap}
use Rattle.bolt_recover.specs.PageGaps.{gap_on, kept_gap, spot_gap}
use Rattle.bolt_recover.specs.Surveys.{ForSurveys, LosesNothing, SurveyedWay, way_kept}

pub record Laws : Type 0 where
  pub kept : ForSurveys
      (λ file meta survey. LosesNothing survey → (way : List ℕ) (spot : Spot) → reached (node_at file meta) meta.root way ≡ Some spot
      → Has survey (way_kept way))
  pub loses : ForSurveys (λ file meta survey. HasSoundTrees file meta → LosesNothing survey)
  pub sound : (file : List ℕ) (meta : Meta) → AreLosses file meta [] → HasSoundTrees file meta
  pub written : (file : List ℕ) (meta : Meta) → IsBytes file → IsPageSize meta.page_size → HasSoundTrees file meta → HasNoGaps file meta
      → IsAsWritten file meta

-- ---- no gap is reported, so no page that is kept has one

gap_none : (page : ℕ) (gap : Option GapView) → gap_on page gap ≡ [] → gap ≡ None
gap_none page None e = refl
gap_none page (Some gap) e = absurd (cc)

module _ (file : List ℕ) (meta : Meta) where
  kept_none : (survey : List SurveyedWay) → gaps_of file meta survey ≡ [] → (v : SurveyedWay) → Has survey v
      → kept_gap file meta (reached (node_at file meta) meta.root v.way) v.found ≡ []
  kept_none [] none v has = absurd has
  kept_none (u ∷ survey) none v (inl same) =
      subst (λ (w : SurveyedWay). kept_gap file meta (reached (node_at file meta) meta.root w.way) w.found ≡ []) same
      (append_none _ (gaps_of file meta survey) none).0
  kept_none (u ∷ survey) none v (inr later) =
      kept_none survey (append_none (kept_gap file meta (reached (node_at file meta) meta.root u.way) u.found) _ none).1 v later

  spot_none : (spot : Spot) → spot_gap file meta spot ≡ [] → HasNoGap file meta spot
  spot_none (At_page s) e = gap_none s.number _ e
  spot_none (At_inline host inner) e = gap_none host inner.gap e

  none_left : Laws → HasSoundTrees file meta → AreGaps file meta [] → HasNoGaps file meta
  none_left laws trees (survey, surveys, none) way spot led =
      let has = laws.kept file meta survey surveys (laws.loses file meta survey surveys trees) way spot led in
      spot_none spot (rw led at (kept_none survey (sym none) (way_kept way) has))

-- ---- `check --all` answers `OK`

abbrev ok : Answer
ok = done (codes "OK\n")

-- nothing else has status 0
refused_not : (faults : FileFaults) (gaps : List PageGapView) (fault : CheckFault) → status_of (check_refusal faults gaps fault).ending ≡ 1
refused_not faults gaps (check.Open fault) = refl
refused_not faults gaps (check.Structure x) = refl
refused_not faults gaps (check.Accounts findings) = refl
refused_not faults gaps check.Memory = refl

not_ok : (answer : Answer) → status_of answer.ending ≡ 1 → ok ≡ answer → ⊥
not_ok answer wrong same = let none = ap (λ (a : Answer). status_of a.ending) same in absurd (omega (arith, none, wrong))

right_lost : (faults : FileFaults) (file : List ℕ) (choice : MetaChoice) (lost : LostView) (gaps : List PageGapView) (found : List FoundView)
    → AnswersLost false faults file choice lost gaps found ok → (lost ≡ parts []) × (gaps ≡ [])
right_lost faults file choice (everything x) gaps found said = absurd (not_ok _ refl said)
right_lost faults file choice (parts (loss ∷ losses)) gaps found said = absurd (not_ok _ refl said)
right_lost faults file choice (parts []) [] found is = (refl, refl)
right_lost faults file choice (parts []) (gap ∷ gaps) found (inl (meta, of_file, on_ways, under, (none, also), said)) =
    absurd (not_ok _ refl (rw (none, also) at said))
right_lost faults file choice (parts []) (gap ∷ gaps) found (inr (fault, is, said)) = absurd (not_ok _ (refused_not faults (gap ∷ gaps) fault) said)

pub right_written : Laws → (file : List ℕ) (choice : MetaChoice) → IsBytes file → IsCheckAllAnswer file choice ok
    → (meta : Meta) × IsMetaOf file choice meta × IsAsWritten file meta
right_written laws file choice are (faults, found_faults, inl (meta, lost, gaps, found, under, loses, gapped, finds, answers)) =
    let (none, whole) = right_lost faults file choice lost gaps found answers in
    let (losses, lossy) = has_losses file meta in
    let keeps = rw none at loses in
    let no_loss : losses ≡ [] = sym (keeps.1 losses lossy) in
    let trees = laws.sound file meta (subst (AreLosses file meta) no_loss lossy) in (
      meta,
      under,
      laws.written file meta are (choice_page_size file choice meta under) trees (none_left file meta laws trees (subst (AreGaps file meta) whole gapped)),
    )
right_written laws file choice are (faults, found_faults, inr (inl (fault, none, said))) = absurd (not_ok _ refl said)
right_written laws file choice are (faults, found_faults, inr (inr (may, said))) = absurd (not_ok _ refl said)
