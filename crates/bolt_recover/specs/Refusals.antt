-- Why nothing of a file is recovered: docs/RECOVERY.md, "The recovering walk".
use Rattle.std.specs.Prelude.{ℕ, List}
use Rattle.bolt_format.specs.{declared.meta.Meta.Meta, declared.meta.MetaFault.MetaFault}
use Rattle.bolt_check.specs.{Findings.IsMetaPage, Findings.Passes, Findings.Tests, Nodes.node_at, Ways.At_page, Ways.root_spot}
use Rattle.bolt_check.specs.{declared.check_fault.CheckFault.CheckFault}
use Rattle.bolt_check.specs.declared.check_fault.CheckFault.TheVariants.{Accounts, Memory, Open, Structure}
use Rattle.bolt_check.specs.declared.finding.Finding.{Finding}
use Rattle.bolt_recover.specs.declared.root_fault.RootFault.{RootFault}
use Rattle.bolt_recover.specs.declared.root_fault.RootFault.TheVariants as root

-- The root page, to which the empty way leads, is kept, or lost with this finding. The meta pages alone are claimed before.
abbrev pub KeepsRoot : List ℕ → Meta → Type 0
KeepsRoot file meta = Passes (node_at file meta) IsMetaPage (At_page (root_spot meta.root))

abbrev pub LosesRoot : List ℕ → Meta → Finding → Type 0
LosesRoot file meta x = Tests (node_at file meta) IsMetaPage (At_page (root_spot meta.root)) x

-- why nothing is recovered under this meta
abbrev pub IsRefusedRoot : List ℕ → Meta → RootFault → Type 0
IsRefusedRoot file meta (root.Lost x) = LosesRoot file meta x
IsRefusedRoot file meta root.Memory = Unit {0}

-- how the file is refused then
abbrev pub root_refusal : RootFault → CheckFault
root_refusal (root.Lost x) = Structure x
root_refusal root.Memory = Memory

-- Why nothing is recovered under a meta that is looked for: there is none, for this reason; or the root page is lost under the one that is found.
abbrev pub IsUnrecoverable : List ℕ → (IsMeta : Meta → Type 0) → (HasNone : MetaFault → Type 0) → CheckFault → Type 0
IsUnrecoverable file IsMeta HasNone (Open fault) = HasNone fault
IsUnrecoverable file IsMeta HasNone (Structure x) = (meta : Meta) × IsMeta meta × LosesRoot file meta x
IsUnrecoverable file IsMeta HasNone (Accounts reported) = ⊥
IsUnrecoverable file IsMeta HasNone Memory = Unit {0}
