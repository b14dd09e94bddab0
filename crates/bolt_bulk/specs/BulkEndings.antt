-- How a call ends that may stop for reasons other than its sink.
use Rattle.std.specs.Prelude.{Result, Ok, Err}
use Rattle.bolt_format.specs.Endings.{Ending, whole, broken, halted}
use Rattle.bolt_bulk.specs.declared.bulk_fault.BulkFault.{BulkFault}
use Rattle.bolt_bulk.specs.declared.bulk_fault.BulkFault.TheVariants.{Memory, Sink, TooLarge}

-- the fault is Sink exactly if the sink failed
abbrev pub bulk_fault_ending : BulkFault → Ending
bulk_fault_ending Memory = halted
bulk_fault_ending TooLarge = halted
bulk_fault_ending Sink = broken

abbrev pub bulk_ending : {A : Type 0} → Result A BulkFault → Ending
bulk_ending (Ok x) = whole
bulk_ending (Err e) = bulk_fault_ending e
