-- Sound files, and what is reported of the others: docs/SOUND.md.
use Rattle.std.specs.Prelude.{◌≢◌, ℕ, List, [], Bool, true, false, IsTrue}
use Rattle.bolt_format.specs.{Metas.HasNoActive, Metas.HasNoneInSlot, Metas.IsActive, Metas.IsInSlot, declared.meta.Meta.Meta}
use Rattle.bolt_format.specs.{declared.meta.Slot.Slot}
use Rattle.bolt_check.specs.{Accounts.HasAccounts, Findings.IsClean, Findings.IsCovered, Findings.IsFirst, Findings.IsMetaPage, Nodes.node_at}
use Rattle.bolt_check.specs.{OnWays.reach_of, Shape.HasShape}
use Rattle.bolt_check.specs.{AccountFindings.AreAccountFindings, ShownFindings.findings_in, declared.check_fault.CheckFault.CheckFault}
use Rattle.bolt_check.specs.declared.check_fault.CheckFault.TheVariants.{Accounts, Memory, Open, Structure}
use Rattle.bolt_check.specs.declared.finding.Finding.{Finding}

-- page n is a meta page, or in the span of a page that a way leads to
abbrev pub IsUsed : List ℕ → Meta → ℕ → Type 0
IsUsed file meta n = IsCovered (node_at file meta) (reach_of file meta) IsMetaPage n

-- the trees of the file, for this meta, are sound
abbrev pub HasSoundTrees : List ℕ → Meta → Type 0
HasSoundTrees file meta = HasShape (node_at file meta) meta.root

-- no test of the trees of the file, for this meta, fails
abbrev pub PassesTests : List ℕ → Meta → Type 0
PassesTests file meta = IsClean (node_at file meta) (reach_of file meta) IsMetaPage

-- the accounts of the file, for this meta, are right
abbrev pub HasRightAccounts : List ℕ → Meta → Type 0
HasRightAccounts file meta = HasAccounts file meta (IsUsed file meta)

-- all findings of the accounts
abbrev pub AreFindingsOfAccounts : List ℕ → Meta → List Finding → Type 0
AreFindingsOfAccounts file meta findings = AreAccountFindings file meta (IsUsed file meta) findings

-- the first finding of the trees
abbrev pub IsFirstFinding : List ℕ → Meta → Finding → Type 0
IsFirstFinding file meta x = IsFirst (node_at file meta) (reach_of file meta) IsMetaPage x

-- the file is sound for the meta of a slot: its trees are, and its accounts if they were tested too
pub record IsSound (file : List ℕ) (meta : Meta) (accounts : Bool) : Type 0 where
  pub slot : Slot
  pub valid : IsInSlot file slot meta
  pub trees : HasSoundTrees file meta
  pub right : IsTrue accounts → HasRightAccounts file meta

-- what is known of a checked file: its trees are sound and, if its accounts were tested too, all of it is sound for the meta of a slot
pub record IsTested (file : List ℕ) (meta : Meta) (accounts : Bool) : Type 0 where
  pub trees : HasSoundTrees file meta
  pub whole : IsTrue accounts → IsSound file meta true

-- Why the file isn't sound for this meta: the first finding of its trees; or, if they are sound and the accounts are tested too, all findings
-- of its accounts. Or memory ran out.
abbrev pub IsRefusedFor : List ℕ → Meta → Bool → CheckFault → Type 0
IsRefusedFor file meta accounts (Open fault) = ⊥
IsRefusedFor file meta accounts (Structure x) = IsFirstFinding file meta x
IsRefusedFor file meta false (Accounts reported) = ⊥
IsRefusedFor file meta true (Accounts reported) =
    HasSoundTrees file meta × (HasRightAccounts file meta → ⊥) × AreFindingsOfAccounts file meta (findings_in reported)
    × (findings_in reported ≢ [])
IsRefusedFor file meta accounts Memory = Unit {0}

-- why it isn't for the active meta: there is none, or it isn't for that
abbrev pub IsRefused : List ℕ → CheckFault → Type 0
IsRefused file (Open fault) = HasNoActive file fault
IsRefused file Memory = Unit {0}
IsRefused file fault = (slot : Slot) × (meta : Meta) × IsActive file slot meta × IsRefusedFor file meta true fault

-- why its trees aren't for the meta of this slot
abbrev pub IsSlotRefused : List ℕ → Slot → CheckFault → Type 0
IsSlotRefused file slot (Open fault) = HasNoneInSlot file slot fault
IsSlotRefused file slot (Accounts reported) = ⊥
IsSlotRefused file slot Memory = Unit {0}
IsSlotRefused file slot fault = (meta : Meta) × IsInSlot file slot meta × IsRefusedFor file meta false fault
