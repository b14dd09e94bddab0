-- How a call that writes ends.
use Rattle.std.specs.Prelude.{Result, Ok, Err}
use Rattle.bolt_format.specs.declared.sink.SinkFault.{SinkFault}

-- How writing ends: all is written (`whole`); the sink failed after a proper prefix of the text (`cut`), or perhaps after the last byte
-- (`broken`); or the writer gave up for another reason, and the sink hadn't failed (`halted`).
pub data Ending : Type 0 where
  whole : Ending
  cut : Ending
  broken : Ending
  halted : Ending

-- the sink's fault is the only error
abbrev pub ending : {A : Type 0} → Result A SinkFault → Ending
ending (Ok x) = whole
ending (Err e) = broken

-- every error is a sink's failure before the last byte
abbrev pub page_ending : {A E : Type 0} → Result A E → Ending
page_ending (Ok x) = whole
page_ending (Err e) = cut
