-- Which faults the errors of the system are.
use Rattle.std.specs.Prelude.{ℕ, Bool, true, false, Result, Ok, Err}
use Rattle.std.specs.{IoError.error_kind, declared.io.ErrorKind.ErrorKind, declared.io.Error.Error}
use Rattle.std.specs.declared.io.ErrorKind.TheVariants.{AlreadyExists, BrokenPipe, OutOfMemory}
use Rattle.bolt_cli.specs.{declared.outside.CreateFault.CreateFault, declared.outside.OutputFault.OutputFault, declared.outside.ReadFault.ReadFault}
use Rattle.bolt_cli.specs.declared.outside.CreateFault.TheVariants as create
use Rattle.bolt_cli.specs.declared.outside.OutputFault.TheVariants as output
use Rattle.bolt_cli.specs.declared.outside.ReadFault.TheVariants as read

abbrev pub read_fault : ErrorKind → ReadFault
read_fault OutOfMemory = read.Memory
read_fault kind = read.Refused

abbrev pub create_fault : ErrorKind → CreateFault
create_fault AlreadyExists = create.Exists
create_fault OutOfMemory = create.Memory
create_fault kind = create.Refused

-- whether a write failed because nobody reads what is written
abbrev pub is_broken_pipe : ErrorKind → Bool
is_broken_pipe BrokenPipe = true
is_broken_pipe kind = false

abbrev pub finds_no_reader : Result ℕ Error → Bool
finds_no_reader (Ok count) = false
finds_no_reader (Err error) = is_broken_pipe (error_kind error)

abbrev pub output_fault : (reader_left : Bool) → OutputFault
output_fault true = output.ReaderLeft
output_fault false = output.Failed
