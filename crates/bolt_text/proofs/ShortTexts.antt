-- A call that gives up has not written the whole text.
use Rattle.std.proofs.Common.{arith, ◌≡◌, List, ℕ, [], ◌++◌, Result, refl, subst, sym}
use Rattle.std.specs.Prelude.{◌≢◌}
use Rattle.std.specs.Result.{IsErrAnd}
use Rattle.std.proofs.KnownBytes.{Appends-nil}
use Rattle.bolt_text.proofs.Vocabulary.{Ghosts, ReportFault, Wrote, WroteFront, broken, cases_Bool, is_utf8, item_json, json_text, print_from, whole}
use Rattle.bolt_text.proofs.ReportLemmas.{ends_by}
use Rattle.bolt_format.proofs.Exports.{AppendsProperPrefix-first, AppendsProperPrefix-second}
use Rattle.bolt_format.specs.Endings.{Ending}
use Rattle.bolt_text.specs.ReportEndings.{HaltsShort, fault_ending, report_ending}
use Rattle.bolt_text.specs.declared.report_fault.ReportFault.TheVariants as fault

module _ {S : Type 0} {sink : Ghosts S} where
  -- the same text in other words
  pub short_same : {old new : S} {text same : List ℕ} {end : Ending} → text ≡ same → HaltsShort sink old new text end
      → HaltsShort sink old new same end
  short_same {old} {new} {end = end} e halts = subst (λ l. HaltsShort sink old new l end) e halts

  -- a call that ends as another did
  short_ends : {old new : S} {text : List ℕ} {end same : Ending} → end ≡ same → HaltsShort sink old new text end → HaltsShort sink old new text same
  short_ends {old} {new} {text} e halts = subst (λ z. HaltsShort sink old new text z) e halts

  -- all was written
  pub short_whole : {old new : S} {text : List ℕ} → HaltsShort sink old new text whole
  short_whole = record { short = λ is. absurd (cc) }

  short_broken : {old new : S} {text : List ℕ} → HaltsShort sink old new text broken
  short_broken = record { short = λ is. absurd (cc) }

  -- the first text whole, and then the second
  pub short_then : {old mid new : S} {first second : List ℕ} {end : Ending} → Wrote sink old mid first whole → HaltsShort sink mid new second end
      → HaltsShort sink old new (first ++ second) end
  short_then {old} {mid} {new} {first} {second} before halts = record {
    short = λ is. AppendsProperPrefix-second (sink.taken old) (sink.taken mid) (sink.taken new) first second before.appends (halts.short is);
  }

  -- an early return
  pub short_fault : {A : Type 0} {old new : S} {first : List ℕ} (second : List ℕ) (e : ReportFault) (result : Result A ReportFault)
      → HaltsShort sink old new first (fault_ending e) → IsErrAnd result (λ f. f ≡ e) → HaltsShort sink old new (first ++ second) (report_ending result)
  short_fault {old = old} {new = new} {first = first} second e result halts is =
      short_ends (ends_by e result is) (record { short = λ same. AppendsProperPrefix-first (sink.taken old) (sink.taken new) first second (halts.short same) })

  -- or after a prefix of a text
  pub short_front : {A : Type 0} {old mid new : S} {text piece left : List ℕ} (rest : List ℕ) (e : ReportFault) (result : Result A ReportFault)
      → WroteFront sink old mid text left
      → HaltsShort sink mid new piece (fault_ending e) → left ≡ piece ++ rest → IsErrAnd result (λ f. f ≡ e)
      → HaltsShort sink old new text (report_ending result)
  short_front rest e result before halts same is =
      short_same (sym before.parts) (short_then before.wrote (short_same (sym same) (short_fault rest e result halts is)))

  -- the sink's fault
  pub short_passed : {A : Type 0} {old new : S} {text : List ℕ} (result : Result A ReportFault) → IsErrAnd result (λ f. f ≡ fault.Sink)
      → HaltsShort sink old new text (report_ending result)
  short_passed result is = short_ends (ends_by fault.Sink result is) short_broken

  -- nothing was written, and there was something to write
  pub short_unbegun : {old : S} {text : List ℕ} {end : Ending} → text ≢ [] → HaltsShort sink old old text end
  short_unbegun {old} {text} some =
      record { short = λ is. record { front = []; rest = text; parts = refl; short = some; taken = Appends-nil (sink.taken old) } }

-- an item in JSON has a first byte
pub json_some : (bytes : List ℕ) → json_text (item_json bytes) ≢ []
unfolding print_from
json_some bytes = grind (arith, cases_Bool, is_utf8)

-- for the search
pub ruleset shorts = (short_whole, short_then, short_fault, short_passed)
