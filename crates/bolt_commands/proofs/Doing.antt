-- What jobs do with their text, and how they end.
use Rattle.std.proofs.Common.{arith, ◌≡◌, ℕ, List, Result, Ok, Err, inl, inr, ap, refl}
use Rattle.bolt_commands.proofs.Vocabulary.{Answer, Appends-nil, CheckFault, JobEnding, Failure, Ghosts, HasNoBucket, IsErrAnd, IsFailureOf}
use Rattle.bolt_commands.proofs.Vocabulary.{IsReadUnder, IsUnread, LeadsTo, Meta, MetaChoice, Path, PrintsAnswer, SinkFault, Start, Wrote}
use Rattle.bolt_commands.proofs.Vocabulary.{end_write, ending, refused}
use Rattle.bolt_commands.specs.declared.failure.Failure.TheVariants.{NoBucket}

-- how a job ends that isn't done
pub ends_as : {A : Type 0} (ending : Result A Failure) (why : Failure) → IsErrAnd ending (λ said. said ≡ why) → ending ≡ Err why
ends_as (Ok x) why is = absurd is
ends_as (Err said) why is = ap Err is

-- ---- an answer that is one of those that are wanted

-- its text was written, or the sink failed
pub answer_put : {S A : Type 0} {sink : Ghosts S} {old new : S} {IsWanted : Answer → Type 0} (answer : Answer) (put : Result A SinkFault)
    → IsWanted answer
    → Wrote sink old new answer.out (ending put) → PrintsAnswer sink old new IsWanted (end_write put answer.ending)
answer_put answer (Ok x) is put = record { answer = answer; is = is; does = inl (put.appends, put.failures, refl) }
answer_put answer (Err fault) is put = record { answer = answer; is = is; does = inr (put.failures, put.appends, refl) }

pub answer_as : {S : Type 0} {sink : Ghosts S} {old new : S} {IsFound IsWanted : Answer → Type 0} {result : JobEnding}
    → PrintsAnswer sink old new IsFound result
    → ((answer : Answer) → IsFound answer → IsWanted answer) → PrintsAnswer sink old new IsWanted result
answer_as found step = record { answer = found.answer; is = step found.answer found.is; does = found.does }

module _ {S : Type 0} {sink : Ghosts S} {old : S} {IsWanted : Answer → Type 0} where
  -- nothing was written
  pub answer_nothing : (failure : Failure) (result : JobEnding) → IsWanted (refused failure) → IsErrAnd result (λ said. said ≡ failure)
      → PrintsAnswer sink old old IsWanted result
  answer_nothing failure result is said =
      record { answer = refused failure; is = is; does = inl (Appends-nil (sink.taken old), refl, ends_as result failure said) }

  -- the file is refused, and only the first finding is reported
  pub answer_refused : (fault : CheckFault) (result : JobEnding) → ((failure : Failure) → IsFailureOf fault failure → IsWanted (refused failure))
      → IsErrAnd result (λ said. IsFailureOf fault said) → PrintsAnswer sink old old IsWanted result
  answer_refused fault (Ok x) is names = absurd names
  answer_refused fault (Err said) is names = answer_nothing said (Err said) (is said names) refl

  -- the path leads to no bucket, or the file is refused
  pub answer_none : {file : List ℕ} {choice : MetaChoice} {path : Path} (failure : Failure) (result : JobEnding)
      → HasNoBucket file choice path failure
      → ((meta : Meta) → IsReadUnder file choice meta → ((bucket : Start) → LeadsTo file meta path bucket → ⊥) → IsWanted (refused NoBucket))
      → (IsUnread file choice failure → IsWanted (refused failure))
      → IsErrAnd result (λ said. said ≡ failure) → PrintsAnswer sink old old IsWanted result
  answer_none failure result refusal none unread said = grind (arith, answer_nothing)
