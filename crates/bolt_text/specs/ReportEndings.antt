-- How a call ends that may stop for reasons other than its sink.
use Rattle.std.specs.Prelude.{◌≡◌, ◌⊎◌, List, ℕ, Result, Ok, Err}
use Rattle.bolt_format.specs.{Endings.Ending, Endings.whole, Endings.broken, Endings.halted, Sinks.AppendsProperPrefix, declared.sink.Sink.Ghosts}
use Rattle.bolt_text.specs.declared.forms.Form.{Form}
use Rattle.bolt_text.specs.declared.forms.Form.TheVariants.{Json}
use Rattle.bolt_text.specs.declared.report_fault.ReportFault.{ReportFault}
use Rattle.bolt_text.specs.declared.report_fault.ReportFault.TheVariants.{NoMemory, Page, Sink}

-- the fault is Sink exactly if the sink failed
abbrev pub fault_ending : ReportFault → Ending
fault_ending Sink = broken
fault_ending NoMemory = halted
fault_ending (Page fault) = halted

abbrev pub report_ending : {A : Type 0} → Result A ReportFault → Ending
report_ending (Ok x) = whole
report_ending (Err e) = fault_ending e

-- if the call gave up, the sink lacks some of the text
pub record HaltsShort {S : Type 0} (sink : Ghosts S) (old new : S) (text : List ℕ) (end : Ending) : Type 0 where
  pub short : end ≡ halted → AppendsProperPrefix (sink.taken old) (sink.taken new) text

-- ---- which faults a call that writes a text may end with

-- the sink failed, or memory ran out
abbrev pub FailsByWriting : ReportFault → Type 0
FailsByWriting fault = (fault ≡ Sink) ⊎ (fault ≡ NoMemory)

-- The sink failed, or memory ran out, which happens only if memory is needed.
abbrev pub FailsByWritingIf : (IsNeeded : Type 0) → ReportFault → Type 0
FailsByWritingIf IsNeeded fault = (fault ≡ Sink) ⊎ ((fault ≡ NoMemory) × IsNeeded)

-- Keys and values need memory in the form `Json` alone.
abbrev pub FailsByWritingJson : Form → ReportFault → Type 0
FailsByWritingJson form fault = FailsByWritingIf (form ≡ Json) fault
