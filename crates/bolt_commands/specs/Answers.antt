-- What the program answers to a command, and what its sinks accept: docs/COMMANDS.md, "What a run writes".
use Rattle.std.specs.Prelude.{◌≡◌, ◌≢◌, ◌<◌, ◌⊎◌, ℕ, List, [], ◌++◌, Result, Ok, Err}
use Rattle.std.specs.Io.KnownBytes.{Appends}
use Rattle.bolt_format.specs.{Sinks.AppendsPrefix, declared.sink.Sink.Ghosts}
use Rattle.bolt_text.specs.{declared.forms.Form.Form, declared.forms.Form.TheVariants.Json}
use Rattle.bolt_commands.specs.{Failures.failure_line, declared.failure.Failure.Failure}
use Rattle.bolt_commands.specs.declared.failure.Failure.TheVariants as failure

-- How a job ends: with a status, or with a failure that is reported.
abbrev pub JobEnding : Type 0
JobEnding = Result ℕ Failure

-- the text for standard output, and how the job ends
pub record Answer : Type 0 where
  pub out : List ℕ
  pub ending : JobEnding

abbrev pub done : List ℕ → Answer
done text = record { out = text; ending = Ok 0 }

abbrev pub refused : Failure → Answer
refused failure = record { out = []; ending = Err failure }

-- When memory may run out while a text is printed: never; before its last byte is written; or as late as when all of it is.
pub data RunsOut : Type 0 where
  Never Short Late : RunsOut

-- JSON alone needs memory.
abbrev pub in_json : RunsOut → Form → RunsOut
in_json memory Json = memory
in_json memory form = Never

-- Memory may run out before this rest of the text is written.
abbrev pub MayLeave : RunsOut → (rest : List ℕ) → Type 0
MayLeave Never rest = ⊥
MayLeave Short rest = rest ≢ []
MayLeave Late rest = Unit {0}

-- The whole text is printed, and the job ends so; or memory ran out, and a prefix of the text is.
abbrev pub IsPrinted : RunsOut → List ℕ → JobEnding → Answer → Type 0
IsPrinted memory text ending answer =
    (answer ≡ record { out = text; ending = ending })
    ⊎ ((front rest : List ℕ) × (text ≡ front ++ rest) × MayLeave memory rest × (answer ≡ record { out = front; ending = Err failure.Memory }))

-- From its state `old` to `new` standard output accepted the text of the answer without a failure, and the job ends so; or it has failed
-- by then, accepted a prefix, and the job ends with that.
abbrev pub WritesAnswer : {S : Type 0} (sink : Ghosts S) (old new : S) → Answer → JobEnding → Type 0
WritesAnswer sink old new answer ending =
    (Appends (sink.taken old) (sink.taken new) answer.out × (sink.failed new ≡ sink.failed old) × (ending ≡ answer.ending))
    ⊎ ((0 < sink.failed new) × AppendsPrefix (sink.taken old) (sink.taken new) answer.out × (ending ≡ Err failure.Write))

abbrev pub status_of : JobEnding → ℕ
status_of (Ok status) = status
status_of (Err failure) = 1

-- a sink accepted a text without a failure, or it has failed by then and accepted a prefix of it
abbrev pub Accepts : {S : Type 0} (sink : Ghosts S) (old new : S) → List ℕ → Type 0
Accepts sink old new text =
    (Appends (sink.taken old) (sink.taken new) text × (sink.failed new ≡ sink.failed old))
    ⊎ ((0 < sink.failed new) × AppendsPrefix (sink.taken old) (sink.taken new) text)

-- the line of a failure was written to standard error; if there was none, nothing was
abbrev pub Reports : {S : Type 0} (sink : Ghosts S) (old new : S) → JobEnding → Type 0
Reports sink old new (Ok status) = new ≡ old
Reports sink old new (Err failure) = Accepts sink old new (failure_line failure)
