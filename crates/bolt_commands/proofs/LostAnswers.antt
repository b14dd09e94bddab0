-- The answers of `check --all` and `check --lost-and-found`.
use Rattle.std.proofs.Common.{◌≡◌, ◌∷◌, ℕ, List, [], true, false, inl, inr, map, refl, subst, sym}
use Rattle.bolt_commands.proofs.Vocabulary.{all_lost, Answer, AnswersLost, AreGaps, CheckFault, Failure, ForGaps, ForLosses, FoundView, IsFailureOf}
use Rattle.bolt_commands.proofs.Vocabulary.{IsMetaOf, IsSearchOf, IsUnrecoverableUnder, Losses, LossView}
use Rattle.bolt_commands.proofs.Vocabulary.{LostAndFound, LostView, Meta, PageGapView, everything, false≢true, found_view}
use Rattle.bolt_commands.proofs.Vocabulary.{is_nothing, lost_and_found_answer, parts}
use Rattle.bolt_commands.proofs.FoundAnswers.{are_pages}
use Rattle.bolt_check.specs.declared.check_fault.CheckFault.TheVariants as check
use Rattle.bolt_commands.specs.Private.{Checks.AnswersLosses, Checks.AnswersWhole, Checks.unopened, Contents.IsUnsearched}
use Rattle.bolt_commands.specs.declared.verdict.Checking.{Checking}
use Rattle.bolt_job.specs.declared.choices.Extent.TheVariants.{FoundPages}
use Rattle.bolt_recover.proofs.Exports.{has_gaps, no_gaps}
use Rattle.bolt_recover.specs.Refusals.{KeepsRoot}

-- all gaps
pub all_gaps : (file : List ℕ) (meta : Meta) (gaps : List PageGapView) → ForGaps file meta (λ all. gaps ≡ all) → AreGaps file meta gaps
all_gaps file meta gaps known = let (all, are) = has_gaps file meta in subst (AreGaps file meta) (sym (known all are)) are

module _ (c : Checking) where
  abbrev AnswersWith : LostView → List PageGapView → List FoundView → Answer → Type 0
  AnswersWith lost gaps found answer = AnswersLost c.for_bbolt c.faults c.input.file.now c.choice lost gaps found answer

  -- nothing is lost, or something is
  pub none_lost : (lost : LostView) (gaps : List PageGapView) (found : List FoundView) → is_nothing lost ≡ true → (answer : Answer)
      → AnswersWhole c gaps answer → AnswersWith lost gaps found answer
  none_lost (parts []) gaps found none answer is = is
  none_lost lost gaps found none answer is = absurd (false≢true none)

  pub some_lost : (lost : LostView) (gaps : List PageGapView) (found : List FoundView) → is_nothing lost ≡ false
      → AnswersWith lost gaps found (lost_and_found_answer c.faults lost gaps found)
  some_lost (everything x) gaps found some = refl
  some_lost (parts []) gaps found some = absurd (false≢true (sym some))
  some_lost (parts (loss ∷ losses)) gaps found some = refl

  -- of a file that is recovered, or searched
  pub recovered_lost : (meta : Meta) (losses : List LossView) (gaps : List PageGapView) (answer : Answer) → IsMetaOf c.input.file.now c.choice meta
      → KeepsRoot c.input.file.now meta
      → ForLosses c.input.file.now meta (λ all. losses ≡ all) → ForGaps c.input.file.now meta (λ all. gaps ≡ all)
      → AnswersWith (parts losses) gaps [] answer
      → AnswersLosses c Losses answer
  recovered_lost meta losses gaps answer under keeps lost known answers =
      inl (meta, parts losses, gaps, [], under, (keeps, lost), all_gaps c.input.file.now meta gaps known, refl, answers)

  pub searched_lost : (searched : LostAndFound) (gaps : List PageGapView) (answer : Answer) → IsSearchOf c.input.file.now c.choice searched
      → ForGaps c.input.file.now searched.meta (λ all. gaps ≡ all)
      → AnswersWith (all_lost searched) gaps (map found_view searched.found.items) answer
      → AnswersLosses c FoundPages answer
  searched_lost searched gaps answer is known answers =
      inl (
        searched.meta,
        all_lost searched,
        gaps,
        map found_view searched.found.items,
        is.under,
        is.lost,
        all_gaps c.input.file.now searched.meta gaps known,
        are_pages c.input.file.now searched.meta searched.found.items is.found is.views,
        answers,
      )

  -- nothing is recovered, or the file isn't searched
  pub unrecovered_lost : (fault : CheckFault) (why : Failure) → IsUnrecoverableUnder c.input.file.now c.choice fault → IsFailureOf fault why
      → AnswersLosses c Losses (unopened c.faults why)
  unrecovered_lost (check.Open fault) why none is = rw is (inr (inl (fault, none, refl)))
  unrecovered_lost (check.Structure x) why (meta, under, loses) is =
      rw is (inl (meta, everything x, [], [], under, loses, no_gaps c.input.file.now meta x loses, refl, refl))
  unrecovered_lost (check.Accounts findings) why none is = absurd none
  unrecovered_lost check.Memory why none is = rw is (inr (inr (tt, refl)))

  pub unsearched_lost : (why : Failure) → IsUnsearched c.input.file.now c.choice why → AnswersLosses c FoundPages (unopened c.faults why)
  unsearched_lost why (inl (fault, none, is)) = rw is (inr (inl (fault, none, refl)))
  unsearched_lost why (inr (meta, under, is)) = rw is (inr (inr ((meta, under), refl)))
