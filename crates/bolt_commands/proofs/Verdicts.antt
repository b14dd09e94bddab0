-- What a check of a file comes to.
use Rattle.std.proofs.Common.{◌≡◌, ◌≢◌, ◌&&◌, ℕ, Bool, true, false, List, [], ◌∷◌, Ok, ap, arith, codes, inl, inr, refl, subst}
use Rattle.bolt_check.specs.declared.bbolt_file.FileFinding.{FileFinding}
use Rattle.bolt_check.specs.declared.check_fault.CheckFault.TheVariants as check
use Rattle.bolt_commands.proofs.Vocabulary.{Answer, CheckFault, FileFaults, Failure, Finding, Ghosts, IsFindingsAnswer, IsReadUnder, IsRefusedUnder}
use Rattle.bolt_commands.proofs.Vocabulary.{JobEnding, Meta, MetaChoice, PageGapView, PrintsAnswer, check_refusal, done, false≢true, findings_answer}
use Rattle.bolt_commands.proofs.Doing.{answer_as}
use Rattle.bolt_commands.specs.{Answers.status_of, CheckAnswers.AreFindingsFor, CheckAnswers.bbolt_answer, CheckAnswers.is_right, FileFaults.is_fine}
use Rattle.bolt_commands.specs.{FileFaults.no_faults}
use Rattle.bolt_commands.specs.Private.Checks.{AnswersWhole, ComesToVerdict, IsVerdict, IsWrong, unopened}
use Rattle.bolt_commands.specs.declared.verdict.{Checking.Checking, Verdict.Verdict}
use Rattle.bolt_commands.specs.declared.failure.Failure.TheVariants as failure
use Rattle.bolt_commands.specs.declared.verdict.Verdict.TheVariants as verdict

-- ---- another answer that is wanted

module _ {S : Type 0} (sink : Ghosts S) (old new : S) (IsFound IsWanted : Answer → Type 0) (c : Checking)
    (step : (answer : Answer) → IsFound answer → IsWanted answer) where
  verdict_as : (v : Verdict) → IsVerdict sink old new IsFound c v → IsVerdict sink old new IsWanted c v
  verdict_as (verdict.Right checked) (same, right) =
      (same, record { sound = right.sound; fine = right.fine; wanted = λ answer is. step answer (right.wanted answer is) })
  verdict_as (verdict.Wrong ending) found = answer_as found (λ answer (is, wrong). (step answer is, wrong))

pub comes_as : {S : Type 0} {sink : Ghosts S} {old new : S} {IsFound IsWanted : Answer → Type 0} {c : Checking} {v : Verdict}
    → ComesToVerdict sink old new IsFound c v
    → ((answer : Answer) → IsFound answer → IsWanted answer) → ComesToVerdict sink old new IsWanted c v
comes_as {sink = sink} {old = old} {new = new} {IsFound = IsFound} {IsWanted = IsWanted} {c = c} {v = v} comes step =
    record { is = verdict_as sink old new IsFound IsWanted c step v comes.is }

-- ---- how a job ends of a file with which something is wrong

pub unopened_wrong : (faults : FileFaults) (why : Failure) → status_of (unopened faults why).ending ≡ 1
unopened_wrong faults (failure.Open fault) = refl
unopened_wrong faults (failure.File x) = refl
unopened_wrong faults why = refl

pub not_done : (ending : JobEnding) → status_of ending ≡ 1 → ending ≢ Ok 0
not_done ending wrong done = let none = ap status_of done in absurd (omega (arith, wrong, none))

-- nothing was written before
pub after_nothing : {S : Type 0} {sink : Ghosts S} {old middle new : S} {IsWanted : Answer → Type 0} {ending : JobEnding} → middle ≡ old
    → PrintsAnswer sink middle new IsWanted ending
    → PrintsAnswer sink old new IsWanted ending
after_nothing {S = S} {sink = sink} {new = new} {IsWanted = IsWanted} {ending = ending} same put =
    subst (λ (s : S). PrintsAnswer sink s new IsWanted ending) same put

-- ---- a sound file

none_for : (for_bbolt : Bool) (file : List ℕ) (choice : MetaChoice) (meta : Meta) → AreFindingsFor (for_bbolt && false) file choice meta [] []
none_for true file choice meta = (refl, refl)
none_for false file choice meta = (refl, refl)

-- ---- a file whose gaps are known

-- nothing is wrong with it
pub right_gaps : (c : Checking) (gaps : List PageGapView) → is_right c.faults gaps ≡ true
    → (is_fine c.faults ≡ true) × ((answer : Answer) → AnswersWhole c [] answer → AnswersWhole c gaps answer)
right_gaps c [] right = (right, λ answer is. is)
right_gaps c (gap ∷ gaps) right = absurd (false≢true right)

module _ (c : Checking) (gaps : List PageGapView) where
  -- something is
  pub wrong_gaps : (meta : Meta) → is_right c.faults gaps ≡ false → IsReadUnder c.input.file.now c.choice meta
      → IsWrong (AnswersWhole c gaps) (findings_answer c.faults [] gaps)
  wrong_gaps meta wrong under = (inl (meta, [], [], under, rw wrong (none_for c.for_bbolt c.input.file.now c.choice meta), rw wrong refl), refl)

  -- it is refused
  pub refused_file : (fault : CheckFault) → IsRefusedUnder c.input.file.now c.choice fault
      → IsWrong (AnswersWhole c gaps) (check_refusal c.faults gaps fault)
  refused_file (check.Open fault) is = (inr (check.Open fault, is, refl), refl)
  refused_file (check.Structure x) is = (inr (check.Structure x, is, refl), refl)
  refused_file (check.Accounts findings) is = (inr (check.Accounts findings, is, refl), refl)
  refused_file check.Memory is = (inr (check.Memory, is, refl), refl)

module _ (faults : FileFaults) (file : List ℕ) (choice : MetaChoice) where
  -- ---- what bbolt fails on

  found_for : (for_bbolt right : Bool) (meta : Meta) (of_file : List FileFinding) (on_ways : List Finding) → right ≡ true
      → AreFindingsFor for_bbolt file choice meta of_file on_ways → AreFindingsFor (for_bbolt && right) file choice meta of_file on_ways
  found_for true right meta of_file on_ways is found = rw is found
  found_for false right meta of_file on_ways is found = found

  same_found : (of_file : List FileFinding) (on_ways : List Finding) → is_fine faults ≡ true
      → bbolt_answer no_faults [] of_file on_ways ≡ bbolt_answer faults [] of_file on_ways
  same_found [] [] fine = rw fine refl
  same_found [] (x ∷ on_ways) fine = refl
  same_found (x ∷ of_file) on_ways fine = refl

  pub right_found : (for_bbolt : Bool) (meta : Meta) (of_file : List FileFinding) (on_ways : List Finding) → is_fine faults ≡ true
      → IsReadUnder file choice meta
      → AreFindingsFor for_bbolt file choice meta of_file on_ways → IsFindingsAnswer for_bbolt faults file choice [] (bbolt_answer no_faults [] of_file on_ways)
  right_found for_bbolt meta of_file on_ways fine under found =
      inl (meta, of_file, on_ways, under, found_for for_bbolt (is_fine faults) meta of_file on_ways fine found, same_found of_file on_ways fine)

  -- it isn't looked for
  pub right_done : (meta : Meta) → is_fine faults ≡ true → IsReadUnder file choice meta
      → IsFindingsAnswer false faults file choice [] (done (codes "OK\n"))
  right_done meta fine under = right_found false meta [] [] fine under (refl, refl)
