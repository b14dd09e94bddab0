-- What a check of a file comes to, of which is known what else is wrong with it.
use Rattle.std.specs.Prelude.{◌≡◌, List, [], true}
use Rattle.bolt_check.specs.declared.checked.Checked.{Checked}
use Rattle.bolt_check.specs.declared.check_fault.CheckFault.TheVariants as check
use Rattle.bolt_recover.specs.{PageGaps.PageGapView, Losses.everything}
use Rattle.bolt_format.specs.declared.sink.Sink.{Ghosts}
use Rattle.bolt_commands.specs.{Answers.Answer, Answers.refused, Answers.status_of, CheckAnswers.IsCheckAnswerAfter, CheckAnswers.IsFindingsAnswer}
use Rattle.bolt_commands.specs.{CheckAnswers.IsLostAnswer, CheckAnswers.check_refusal, CheckAnswers.lost_and_found_answer}
use Rattle.bolt_commands.specs.{FileFaults.is_fine, Private.Contents.IsSoundOf, Private.Printing.PrintsAnswer, declared.failure.Failure.Failure}
use Rattle.bolt_commands.specs.{declared.file_faults.FileFaults.FileFaults}
use Rattle.bolt_commands.specs.declared.verdict.{Checking.Checking, Verdict.Verdict}
use Rattle.bolt_commands.specs.declared.failure.Failure.TheVariants as failure
use Rattle.bolt_commands.specs.declared.verdict.Verdict.TheVariants as verdict
use Rattle.bolt_job.specs.declared.choices.Extent.{Extent}

-- what `check` answers to what is checked: to this extent; of a file that lost something, if it did; and of one with these gaps that lost nothing
abbrev pub AnswersTo : Checking → Extent → Answer → Type 0
AnswersTo c extent answer = IsCheckAnswerAfter extent c.for_bbolt c.faults c.input.file.now c.choice answer

abbrev pub AnswersLosses : Checking → Extent → Answer → Type 0
AnswersLosses c extent answer = IsLostAnswer extent c.for_bbolt c.faults c.input.file.now c.choice answer

abbrev pub AnswersWhole : Checking → List PageGapView → Answer → Type 0
AnswersWhole c gaps answer = IsFindingsAnswer c.for_bbolt c.faults c.input.file.now c.choice gaps answer

-- Nothing is wrong with the file, which is read so. What `check` answers of a sound file without gaps is then wanted of it.
pub record IsRight (IsWanted : Answer → Type 0) (c : Checking) (checked : Checked) : Type 0 where
  pub sound : IsSoundOf c.input.file.now c.choice checked
  pub fine : is_fine c.faults ≡ true
  pub wanted : (answer : Answer) → AnswersWhole c [] answer → IsWanted answer

-- an answer that is wanted, and that isn't `OK`
abbrev pub IsWrong : (Answer → Type 0) → Answer → Type 0
IsWrong IsWanted answer = IsWanted answer × (status_of answer.ending ≡ 1)

-- nothing is wrong, and nothing was written; or what is wrong was written
abbrev pub IsVerdict : {S : Type 0} (sink : Ghosts S) (old new : S) → (Answer → Type 0) → Checking → Verdict → Type 0
IsVerdict sink old new IsWanted c (verdict.Right checked) = (new ≡ old) × IsRight IsWanted c checked
IsVerdict sink old new IsWanted c (verdict.Wrong ending) = PrintsAnswer sink old new (IsWrong IsWanted) ending

pub record ComesToVerdict {S : Type 0} (sink : Ghosts S) (old new : S) (IsWanted : Answer → Type 0) (c : Checking) (verdict : Verdict) : Type 0 where
  pub is : IsVerdict sink old new IsWanted c verdict

abbrev pub ChecksTo : {S : Type 0} (sink : Ghosts S) (old new : S) → Extent → Checking → Verdict → Type 0
ChecksTo sink old new extent c verdict = ComesToVerdict sink old new (AnswersTo c extent) c verdict

-- why nothing is recovered: if the root page is lost, everything is
abbrev pub unopened : FileFaults → Failure → Answer
unopened faults (failure.Open fault) = check_refusal faults [] (check.Open fault)
unopened faults (failure.File x) = lost_and_found_answer faults (everything x) [] []
unopened faults why = refused why

-- what is lost and found of a file is written, and the gaps of what is kept; or if nothing is lost, what `check` writes
abbrev pub ChecksLost : {S : Type 0} (sink : Ghosts S) (old new : S) → Extent → Checking → Verdict → Type 0
ChecksLost sink old new extent c verdict = ComesToVerdict sink old new (AnswersLosses c extent) c verdict

-- what `check` writes of a file with these gaps
abbrev pub ChecksGaps : {S : Type 0} (sink : Ghosts S) (old new : S) → List PageGapView → Checking → Verdict → Type 0
ChecksGaps sink old new gaps c verdict = ComesToVerdict sink old new (AnswersWhole c gaps) c verdict
