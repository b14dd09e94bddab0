-- How the writing of a copy ends: docs/COMMANDS.md, "What a run writes".
use Rattle.std.specs.Prelude.{◌≡◌, ◌<◌, ℕ, List, length, Bool, Result, Ok, Err}
use Rattle.std.specs.Io.KnownBytes.{Appends}
use Rattle.bolt_format.specs.declared.sink.Sink.{Ghosts}
use Rattle.bolt_bulk.specs.{Compacting.too_many, declared.bulk_fault.BulkFault.BulkFault}
use Rattle.bolt_commands.specs.{CopyAnswers.StopsShort, Failures.copy_failure, SnapshotAnswers.copy_of}

-- the target accepted the whole copy without a failure, and this is its length; its layout has fewer than 2^63 bytes
pub record IsWholeCopy {T : Type 0} (target : Ghosts T) (old new : T) (layout copy : List ℕ) (count : ℕ) : Type 0 where
  pub small : length layout < too_many
  pub all : Appends (target.taken old) (target.taken new) copy
  pub sound : target.failed new ≡ target.failed old
  pub long : count ≡ length copy

-- the copy with this layout is whole, or it stopped short and the fault says why
abbrev pub EndsCopy : {T : Type 0} (target : Ghosts T) (old new : T) (layout : List ℕ) (snapshot : Bool) → Result ℕ BulkFault → Type 0
EndsCopy target old new layout snapshot (Ok count) = IsWholeCopy target old new layout (copy_of snapshot layout) count
EndsCopy target old new layout snapshot (Err fault) = StopsShort target old new layout (copy_of snapshot layout) (copy_failure fault)
