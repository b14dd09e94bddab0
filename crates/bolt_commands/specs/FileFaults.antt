-- What is wrong with a file apart from its pages: docs/COMMANDS.md, "Snapshots" and "Both metas".
use Rattle.std.specs.Prelude.{◌≡◌, ◌⊎◌, ◌&&◌, ◌++◌, ◌+◌, ℕ, List, [], Bool, Option, None, Some, is_none}
use Rattle.bolt_format.specs.{Metas.HasSlotFault, Metas.IsActive, Metas.IsInSlot, Metas.other_slot, declared.meta.Meta.Meta}
use Rattle.bolt_format.specs.declared.meta.Slot.{Slot}
use Rattle.bolt_report.specs.{FaultWords.snapshot_fault_text, MetaLines.slot_fault_text}
use Rattle.bolt_etcd.specs.declared.check.snapshot.SnapshotFault.{SnapshotFault}
use Rattle.bolt_commands.specs.{SnapshotAnswers.bad_hash, SnapshotAnswers.asked_hash_fault, declared.file_faults.FileFaults.FileFaults}
use Rattle.bolt_commands.specs.declared.other_meta.OtherMeta.{OtherMeta}
use Rattle.bolt_job.specs.{CopyKinds.is_snapshot, declared.choices.CopyKind.CopyKind, declared.choices.Extent.Extent}
use Rattle.bolt_job.specs.declared.choices.Extent.TheVariants.{FoundPages, Losses, Sound}
use Rattle.bolt_job.specs.declared.choices.MetaChoice.{MetaChoice}
use Rattle.bolt_job.specs.declared.choices.MetaChoice.TheVariants.{Active, Assumed, InSlot}

-- ---- what it is

-- the meta in the slot that isn't in use, if it is refused
abbrev pub IsUnusedFault : List ℕ → Slot → Option OtherMeta → Type 0
IsUnusedFault file slot None = (meta : Meta) × IsInSlot file (other_slot slot) meta
IsUnusedFault file slot (Some other) =
    (other.slot ≡ other_slot slot) × HasSlotFault file other.slot other.fault × ((meta : Meta) → IsInSlot file other.slot meta → ⊥)

-- the other meta, if it is refused, of a file with an active one; without one there is nothing more to say
abbrev pub IsOtherFault : List ℕ → Option OtherMeta → Type 0
IsOtherFault file other =
    ((slot : Slot) × (meta : Meta) × IsActive file slot meta × IsUnusedFault file slot other)
    ⊎ (((slot : Slot) (meta : Meta) → IsInSlot file slot meta → ⊥) × (other ≡ None))

-- Both metas are looked at if all of a file is asked for, under its active meta.
abbrev pub IsMetasFault : Extent → List ℕ → MetaChoice → Option OtherMeta → Type 0
IsMetasFault Sound file choice other = other ≡ None
IsMetasFault Losses file Active other = IsOtherFault file other
IsMetasFault Losses file (InSlot slot) other = other ≡ None
IsMetasFault Losses file (Assumed assumed) other = other ≡ None
IsMetasFault FoundPages file Active other = IsOtherFault file other
IsMetasFault FoundPages file (InSlot slot) other = other ≡ None
IsMetasFault FoundPages file (Assumed assumed) other = other ≡ None

pub record AreFileFaults (extent : Extent) (snapshot : Bool) (file : List ℕ) (choice : MetaChoice) (faults : FileFaults) : Type 0 where
  pub hash : faults.hash ≡ asked_hash_fault snapshot file
  pub metas : IsMetasFault extent file choice faults.other

-- What is wrong with a file that is copied: a wrong hash counts only if a snapshot is made of the file, and if the file has a hash.
pub record AreCopyFaults (extent : Extent) (kind : CopyKind) (file : List ℕ) (choice : MetaChoice) (faults : FileFaults) : Type 0 where
  pub hash : faults.hash ≡ bad_hash (is_snapshot kind) file
  pub metas : IsMetasFault extent file choice faults.other

-- nothing is
abbrev pub no_faults : FileFaults
no_faults = record { hash = None; other = None }

abbrev pub is_fine : FileFaults → Bool
is_fine faults = is_none faults.hash && is_none faults.other

-- ---- how it is printed

-- the line of the hash, and nothing if nothing is wrong with it
abbrev pub hash_lines : Option SnapshotFault → List ℕ
hash_lines None = []
hash_lines (Some fault) = snapshot_fault_text fault

abbrev pub other_meta_lines : Option OtherMeta → List ℕ
other_meta_lines None = []
other_meta_lines (Some other) = slot_fault_text other.slot other.fault

abbrev pub fault_lines : FileFaults → List ℕ
fault_lines faults = hash_lines faults.hash ++ other_meta_lines faults.other

-- how many errors these are
abbrev pub errors_of : {A : Type 0} → Option A → ℕ
errors_of None = 0
errors_of (Some x) = 1

abbrev pub errors_in : FileFaults → ℕ
errors_in faults = errors_of faults.hash + errors_of faults.other
