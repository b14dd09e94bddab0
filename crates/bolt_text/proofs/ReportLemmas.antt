-- What was written, if a call also fails for other reasons than its sink.
use Rattle.std.proofs.Common.{◌≡◌, ◌<◌, List, ℕ, ◌++◌, Result, Ok, Err, ap, get_or, length, map, sym, ◌+◌, flat_map}
use Rattle.std.proofs.Common.{take}
use Rattle.std.specs.Result.{IsErrAnd}
use Rattle.bolt_lemmas.proofs.Exports.{view_at}
use Rattle.bolt_text.proofs.Vocabulary.{broken, ending, Ghosts, IsErr, length-map, ReportFault, SinkFault, slice_get-get_or, whole, Wrote}
use Rattle.bolt_text.proofs.Vocabulary.{Wrote-element, Wrote-element_return, Wrote-elements, Wrote-return, Wrote-then, WroteFront}
use Rattle.bolt_format.proofs.Exports.{front_stop, Wrote-ends, Wrote-halt, Wrote-stop, Wrote-stop_halted}
use Rattle.bolt_text.specs.ReportEndings.{fault_ending, report_ending}
use Rattle.bolt_text.specs.declared.report_fault.ReportFault.TheVariants as fault

-- a fault that was passed on
pub ends_by : {A : Type 0} (e : ReportFault) (result : Result A ReportFault) → IsErrAnd result (λ f. f ≡ e) → fault_ending e ≡ report_ending result
ends_by e (Ok x) is = absurd is
ends_by e (Err f) is = ap fault_ending (sym is)

module _ {S : Type 0} {sink : Ghosts S} {old new : S} where
  Wrote-stops : {first : List ℕ} (second : List ℕ) (e : ReportFault) → Wrote sink old new first (fault_ending e)
      → Wrote sink old new (first ++ second) (fault_ending e)
  Wrote-stops second fault.Sink a = Wrote-stop second a
  Wrote-stops second fault.NoMemory a = Wrote-stop_halted second a
  Wrote-stops second (fault.Page p) a = Wrote-stop_halted second a

  -- an early return
  pub Wrote-fault : {A : Type 0} {first : List ℕ} (second : List ℕ) (e : ReportFault) (result : Result A ReportFault)
      → Wrote sink old new first (fault_ending e) → IsErrAnd result (λ f. f ≡ e) → Wrote sink old new (first ++ second) (report_ending result)
  Wrote-fault second e result a is = Wrote-ends (ends_by e result is) (Wrote-stops second e a)

  -- the sink's fault
  pub Wrote-passed : {A : Type 0} {text : List ℕ} (result : Result A ReportFault) → Wrote sink old new text broken
      → IsErrAnd result (λ f. f ≡ fault.Sink)
      → Wrote sink old new text (report_ending result)
  Wrote-passed result a is = Wrote-ends (ends_by fault.Sink result is) a

  pub Wrote-sink : {A : Type 0} {first : List ℕ} (second : List ℕ) (result : Result A ReportFault)
      → Wrote sink old new first broken → IsErrAnd result (λ f. f ≡ fault.Sink) → Wrote sink old new (first ++ second) (report_ending result)
  Wrote-sink second result a is = Wrote-fault second fault.Sink result a is

-- nothing was written, and memory ran out
pub Wrote-unbegun : {S A : Type 0} {sink : Ghosts S} (old : S) (text : List ℕ) (result : Result A ReportFault)
    → IsErrAnd result (λ f. f ≡ fault.NoMemory)
    → Wrote sink old old text (report_ending result)
Wrote-unbegun old text result is = Wrote-ends (ends_by fault.NoMemory result is) (Wrote-halt old text)

-- an early return after a prefix of a text
pub front_fault : {S A : Type 0} {sink : Ghosts S} {old mid new : S} {text piece left : List ℕ} (rest : List ℕ) (e : ReportFault)
    (result : Result A ReportFault)
    → WroteFront sink old mid text left → Wrote sink mid new piece (fault_ending e) → left ≡ piece ++ rest → IsErrAnd result (λ f. f ≡ e)
    → Wrote sink old new text (report_ending result)
front_fault rest e result before one same is = front_stop before (Wrote-fault rest e result one is) same

pub front_broken : {S B : Type 0} {sink : Ghosts S} {old mid new : S} {text piece left : List ℕ} (rest : List ℕ) (result : Result B SinkFault)
    → WroteFront sink old mid text left → Wrote sink mid new piece broken → left ≡ piece ++ rest → IsErr result → Wrote sink old new text (ending result)
front_broken rest result before one same err = front_stop before (Wrote-return rest result one err) same

-- the lines of the elements before number i were written
abbrev pub WroteLines : {S X : Type 0} (sink : Ghosts S) (old new : S) (line : X → List ℕ) (xs : List X) (i : ℕ) → Type 0
WroteLines sink old new line xs i = Wrote sink old new (flat_map line (take i xs)) whole

-- the line of one element more,
pub view_more : {S X Y : Type 0} {sink : Ghosts S} (line : Y → List ℕ) (view : X → Y) (xs : List X) (i : ℕ) (x : X) {old mid new : S} → i < length xs
    → x ≡ get_or xs i x
    → WroteLines sink old mid line (map view xs) i → Wrote sink mid new (line (view x)) whole → WroteLines sink old new line (map view xs) (i + 1)
view_more line view xs i x within is before one = Wrote-element line (map view xs) i (view x) (view_at view xs i x within is) before one

-- or of one that was not written whole
pub view_return : {S X Y B : Type 0} {sink : Ghosts S} (line : Y → List ℕ) (view : X → Y) (xs : List X) (i : ℕ) (x : X) {old mid new : S}
    (result : Result B SinkFault)
    → i < length xs
    → x ≡ get_or xs i x → WroteLines sink old mid line (map view xs) i → Wrote sink mid new (line (view x)) broken → IsErr result
    → Wrote sink old new (flat_map line (map view xs)) (ending result)
view_return line view xs i x result within is before one err =
    Wrote-element_return line (map view xs) i (view x) result (view_at view xs i x within is) before one err

-- for the search: the lines of a list,
pub ruleset elements = (Wrote-element, Wrote-element_return, Wrote-elements, slice_get-get_or, length-map)

-- and one text after another, if a call also fails for other reasons than its sink
pub ruleset reports = (Wrote-then, Wrote-fault, Wrote-sink, Wrote-passed, Wrote-unbegun)
