-- What is buffered for standard error once a job has ended.
use Rattle.std.proofs.Common.{◌≡◌, ◌≢◌, ◌<◌, ◌∙◌, ap, inl, inr, arith, ℕ, List, [], Option, None, Some, Result, Ok, Err, OnOk, OnErr}
use Rattle.std.proofs.lemmas.Option.{same_Some}
use Rattle.bolt_cli.proofs.Vocabulary.{Appends, Deed, Ghosts, JobEnding, Fails, FailsUnended, IsBufferedLine, IsReported, Reports, failure_line}

-- what an empty sink holds after a text was put to it
pub appended : (taken : Option (List ℕ)) (text : List ℕ) → Appends (Some []) taken text → taken ≡ Some text
appended (Some bytes) text put = ap Some put
appended None text put = absurd put

-- what a fresh sink holds after the ending was reported to it
pub buffered_line : {S : Type 0} (sink : Ghosts S) (old new : S) (ending : JobEnding)
    → sink.taken old ≡ Some [] → sink.failed old ≡ 0 → Reports sink old new ending → IsBufferedLine ending (sink.taken new) (sink.failed new)
buffered_line sink old new (Ok status) empty sound same = (ap sink.taken same ∙ empty, ap sink.failed same ∙ sound)
buffered_line sink old new (Err failure) empty sound (inl (put, same)) =
    inl (appended (sink.taken new) (failure_line failure) (rw empty at put), same ∙ sound)
buffered_line sink old new (Err failure) empty sound (inr (less, part)) = inr less

module _ {T O : Type 0} (text : List ℕ) (failures : ℕ) where
  -- the line that is buffered is that of a failure
  pub line : (ending : JobEnding) → IsBufferedLine ending (Some text) failures → text ≢ [] → failures ≡ 0 → (deeds : List (Deed T O)) (code : ℕ)
      → Fails text deeds code → IsReported ending deeds code × FailsUnended ending deeds code
  line (Ok status) (empty, none) some sound deeds code fails = absurd (some (same_Some text [] empty))
  line (Err failure) (inl (holds, none)) some sound deeds code fails = let is = rw (same_Some text (failure_line failure) holds) at fails in (inl is, inl is)
  line (Err failure) (inr less) some sound deeds code fails = absurd (omega (arith, less, sound))

-- a sink that hasn't failed has taken what was put
pub put_whole : {T E : Type 0} {A : Type 0} (result : Result T E) (failed : ℕ) → OnOk result A → OnErr result (0 < failed) → failed ≡ 0 → A
put_whole (Ok done) failed whole short sound = whole
put_whole (Err fault) failed whole short sound = absurd (omega (arith, short, sound))
