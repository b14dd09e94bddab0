-- A copy stops as its plan does.
use Rattle.std.specs.Prelude.{Result, Ok, Err}
use Rattle.bolt_bulk.specs.declared.bulk_fault.BulkFault.{BulkFault}
use Rattle.bolt_bulk.specs.declared.bulk_fault.BulkFault.TheVariants as bulk
use Rattle.bolt_bulk.specs.{declared.bulk_fault.PlanFault.PlanFault, declared.bulk_fault.PlanFault.TheVariants.Memory}
use Rattle.bolt_bulk.specs.{declared.bulk_fault.PlanFault.TheVariants.TooLarge}

abbrev pub stopped_by : PlanFault → BulkFault
stopped_by Memory = bulk.Memory
stopped_by TooLarge = bulk.TooLarge

abbrev pub stops_as_planned : {A : Type 0} → Result A PlanFault → Result A BulkFault
stops_as_planned (Ok x) = Ok x
stops_as_planned (Err e) = Err (stopped_by e)
