-- Nothing is recovered under a meta that was looked for.
use Rattle.std.proofs.Common.{ℕ, List}
use Rattle.bolt_format.specs.{declared.meta.Meta.Meta, declared.meta.MetaFault.MetaFault}
use Rattle.bolt_recover.specs.Refusals.{IsRefusedRoot, IsUnrecoverable, root_refusal}
use Rattle.bolt_recover.specs.declared.root_fault.RootFault.{RootFault}
use Rattle.bolt_recover.specs.declared.root_fault.RootFault.TheVariants.{Lost, Memory}

-- refused under a meta that was looked for
pub refused_under : (file : List ℕ) (IsMeta : Meta → Type 0) (HasNone : MetaFault → Type 0) (meta : Meta) → IsMeta meta → (fault : RootFault)
    → IsRefusedRoot file meta fault → IsUnrecoverable file IsMeta HasNone (root_refusal fault)
refused_under file IsMeta HasNone meta is (Lost x) h = (meta, is, h)
refused_under file IsMeta HasNone meta is Memory h = tt
