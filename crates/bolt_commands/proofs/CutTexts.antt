-- The answer of a job that may run out of memory on its way, whether its text was written whole or not.
use Rattle.std.proofs.Common.{◌≡◌, ◌≢◌, IfErr, List, [], Ok, Err, Result, inl, inr, refl, ℕ}
use Rattle.bolt_commands.proofs.Vocabulary.{Answer, JobEnding, Ghosts, IsPrinted, Json, MayFail, PrintsAnswer, ReportFault, Wrote, end_report}
use Rattle.bolt_commands.proofs.Vocabulary.{report_ending, ⊤}
use Rattle.bolt_text.specs.declared.report_fault.ReportFault.TheVariants as report
use Rattle.bolt_commands.specs.declared.failure.Failure.TheVariants as failure
use Rattle.bolt_text.specs.{ReportEndings.FailsByWritingIf, ReportEndings.FailsByWritingJson, ReportEndings.HaltsShort, declared.forms.Form.Form}
use Rattle.bolt_commands.specs.Answers.{Late, MayLeave, RunsOut, Short, in_json}

-- memory ran out
abbrev cut : List ℕ → Answer
cut front = record { out = front; ending = Err failure.Memory }

module _ {S A : Type 0} {sink : Ghosts S} {old new : S} (memory : RunsOut) (X : Type 0) (text : List ℕ) (wanted : JobEnding) where
  -- a call that may run out of memory after the last byte
  put_late : (X → (rest : List ℕ) → MayLeave memory rest) → (put : Result A ReportFault) → Wrote sink old new text (report_ending put)
      → IfErr put (FailsByWritingIf X)
      → PrintsAnswer sink old new (IsPrinted memory text wanted) (end_report put wanted)
  put_late may (Ok x) written fault =
      record { answer = record { out = text; ending = wanted }; is = inl refl; does = inl (written.appends, written.failures, refl) }
  put_late may (Err report.Sink) written fault =
      record { answer = record { out = text; ending = wanted }; is = inl refl; does = inr (written.failures, written.appends, refl) }
  put_late may (Err report.NoMemory) written (inl sink) = absurd cc
  put_late may (Err report.NoMemory) written (inr (full, x)) =
      let begun = written.appends in
      record {
        answer = cut begun.front;
        is = inr (begun.front, begun.rest, begun.parts, may x begun.rest, refl);
        does = inl (begun.taken, written.failures, refl);
      }
  put_late may (Err (report.Page page)) written (inl sink) = absurd cc
  put_late may (Err (report.Page page)) written (inr (full, x)) = absurd cc

  -- one that doesn't give up after the last byte
  put_short : (X → (rest : List ℕ) → rest ≢ [] → MayLeave memory rest) → (put : Result A ReportFault) → Wrote sink old new text (report_ending put)
      → HaltsShort sink old new text (report_ending put) → IfErr put (FailsByWritingIf X)
      → PrintsAnswer sink old new (IsPrinted memory text wanted) (end_report put wanted)
  put_short may (Ok x) written halts fault =
      record { answer = record { out = text; ending = wanted }; is = inl refl; does = inl (written.appends, written.failures, refl) }
  put_short may (Err report.Sink) written halts fault =
      record { answer = record { out = text; ending = wanted }; is = inl refl; does = inr (written.failures, written.appends, refl) }
  put_short may (Err report.NoMemory) written halts (inl sink) = absurd cc
  put_short may (Err report.NoMemory) written halts (inr (full, x)) =
      let begun = halts.short refl in
      record {
        answer = cut begun.front;
        is = inr (begun.front, begun.rest, begun.parts, may x begun.rest begun.short, refl);
        does = inl (begun.taken, written.failures, refl);
      }
  put_short may (Err (report.Page page)) written halts (inl sink) = absurd cc
  put_short may (Err (report.Page page)) written halts (inr (full, x)) = absurd cc

-- memory may always run out
allowed : {A : Type 0} (put : Result A ReportFault) → MayFail put → IfErr put (FailsByWritingIf ⊤)
allowed (Ok x) fault = tt
allowed (Err e) (inl sink) = inl sink
allowed (Err e) (inr full) = inr (full, tt)

module _ {S A : Type 0} {sink : Ghosts S} {old new : S} (text : List ℕ) (wanted : JobEnding) (put : Result A ReportFault)
    (written : Wrote sink old new text (report_ending put)) where
  pub ended_put : MayFail put → PrintsAnswer sink old new (IsPrinted Late text wanted) (end_report put wanted)
  ended_put fault = put_late Late ⊤ text wanted (λ x rest. tt) put written (allowed put fault)

  pub short_put : HaltsShort sink old new text (report_ending put) → MayFail put
      → PrintsAnswer sink old new (IsPrinted Short text wanted) (end_report put wanted)
  short_put halts fault = put_short Short ⊤ text wanted (λ x rest some. some) put written halts (allowed put fault)

  -- if JSON alone needs memory
  pub json_put : (form : Form) → IfErr put (FailsByWritingJson form)
      → PrintsAnswer sink old new (IsPrinted (in_json Late form) text wanted) (end_report put wanted)
  json_put form fault = put_late (in_json Late form) (form ≡ Json) text wanted (λ is rest. rw is tt) put written fault

  pub short_json_put : (form : Form) → HaltsShort sink old new text (report_ending put) → IfErr put (FailsByWritingJson form)
      → PrintsAnswer sink old new (IsPrinted (in_json Short form) text wanted) (end_report put wanted)
  short_json_put form halts fault = put_short (in_json Short form) (form ≡ Json) text wanted (λ is rest some. rw is some) put written halts fault
