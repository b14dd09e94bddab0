-- What is reported of a line that isn't right: docs/COMMANDS.md, "Errors".
use Rattle.std.specs.Prelude.{◌++◌, ℕ, List, codes}
use Rattle.std.specs.Fmt.{decimal}
use Rattle.bolt_load.specs.{declared.load_fault.LineFault.LineFault, declared.load_fault.LoadFault.LoadFault}
use Rattle.bolt_load.specs.declared.load_fault.LineFault.TheVariants.{CutOff, KeyTooLong, NoBucketAbove, NotALine, PathNotRising, ValueTooLong}
use Rattle.bolt_load.specs.declared.load_fault.LoadFault.TheVariants as load

abbrev pub line_fault_words : LineFault → List ℕ
line_fault_words NotALine = codes "not a line of a listing"
line_fault_words KeyTooLong = codes "key too long"
line_fault_words ValueTooLong = codes "value too long"
line_fault_words PathNotRising = codes "path not rising"
line_fault_words NoBucketAbove = codes "no bucket above"
line_fault_words CutOff = codes "cut off"

abbrev pub load_fault_words : LoadFault → List ℕ
load_fault_words load.Memory = codes "out of memory"
load_fault_words (load.Line number fault) = codes "line " ++ decimal number ++ codes ": " ++ line_fault_words fault
