-- What `compact` and `load` answer, and how a copy stops: docs/COMMANDS.md, "What a run writes".
use Rattle.std.specs.Prelude.{◌≡◌, ◌<◌, ◌≤◌, ◌&&◌, ℕ, List, ◌++◌, codes, decimal, length, Option, Some, None, Ok, if◌then◌else◌}
use Rattle.std.specs.Io.KnownBytes.{Keeps}
use Rattle.bolt_bulk.specs.Compacting.{too_many}
use Rattle.bolt_format.specs.{Sinks.AppendsProperPrefix, declared.meta.Meta.Meta, declared.sink.Sink.Ghosts}
use Rattle.bolt_recover.specs.Losses.{LostView, is_nothing}
use Rattle.bolt_report.specs.FoundLines.{FoundView, lost_text}
use Rattle.bolt_commands.specs.{FileFaults.fault_lines, FileFaults.is_fine, declared.failure.Failure.Failure}
use Rattle.bolt_commands.specs.{declared.file_faults.FileFaults.FileFaults, Answers.Answer}
use Rattle.bolt_job.specs.{declared.choices.Extent.Extent, declared.choices.Extent.TheVariants.Sound, declared.choices.PageSize.PageSize}
use Rattle.bolt_commands.specs.declared.failure.Failure.TheVariants as failure
use Rattle.bolt_etcd.specs.declared.check.snapshot.SnapshotFault.{SnapshotFault}

-- the line with the lengths of the file and of its copy
abbrev pub lengths_line : (source copy : ℕ) → List ℕ
lengths_line source copy = (decimal source ++ codes " -> ") ++ (decimal copy ++ codes " bytes\n")

-- the page size of the copy: the one that is asked for, or that of the file if none is
abbrev pub copy_page_size : Option PageSize → Meta → ℕ
copy_page_size (Some size) meta = size.bytes
copy_page_size None meta = meta.page_size

-- why a copy isn't whole: memory ran out, the layout has 2^63 bytes or more, or the target failed
abbrev pub StopsCopy : {T : Type 0} (target : Ghosts T) (old new : T) → (layout : List ℕ) → Failure → Type 0
StopsCopy target old new layout failure.Memory = target.failed new ≡ target.failed old
StopsCopy target old new layout failure.TooLarge = (too_many ≤ length layout) × (target.failed new ≡ target.failed old)
StopsCopy target old new layout failure.Write = 0 < target.failed new
StopsCopy target old new layout _ = ⊥

-- The target accepted a prefix of the copy that isn't the whole, and the failure says why. Of a layout with 2^63 bytes or more it
-- accepted nothing.
pub record StopsShort {T : Type 0} (target : Ghosts T) (old new : T) (layout copy : List ℕ) (failure : Failure) : Type 0 where
  pub short : AppendsProperPrefix (target.taken old) (target.taken new) copy
  pub why : StopsCopy target old new layout failure
  pub large : too_many ≤ length layout → Keeps (target.taken old) (target.taken new)

-- the status of a copy: 0 if nothing is lost, and nothing is wrong with the file apart from its pages
abbrev pub copy_status : FileFaults → LostView → ℕ
copy_status faults lost = if is_fine faults && is_nothing lost then 0 else 1

-- why a file isn't copied whose hash is wrong; what is left of a damaged one is copied all the same
abbrev pub hash_refusal : Extent → Option SnapshotFault → Option SnapshotFault
hash_refusal Sound hash = hash
hash_refusal _ hash = None

-- what is reported of a copy: what is wrong with its file apart from the pages, each loss, each found page, and the lengths of the file and of
-- the copy
abbrev pub copy_report : FileFaults → LostView → List FoundView → (source copy : ℕ) → Answer
copy_report faults lost found source copy =
    record { out = fault_lines faults ++ (lost_text lost found ++ lengths_line source copy); ending = Ok (copy_status faults lost) }
