-- The meta that a file is read under: docs/COMMANDS.md, "A named meta" and "An assumed meta".
use Rattle.std.specs.Prelude.{◌≡◌, ℕ, List, length}
use Rattle.bolt_format.specs.{Assumed.assumed_meta, Metas.HasActive, Metas.HasNoActive, Metas.HasNoneInSlot, Metas.IsInSlot, declared.meta.Meta.Meta}
use Rattle.bolt_format.specs.{declared.meta.MetaFault.MetaFault}
use Rattle.bolt_job.specs.{declared.choices.AssumedMeta.AssumedMeta, declared.choices.MetaChoice.MetaChoice}
use Rattle.bolt_job.specs.declared.choices.MetaChoice.TheVariants.{Active, Assumed, InSlot}

-- the meta that is assumed of a file
abbrev pub assumed_for : List ℕ → AssumedMeta → Meta
assumed_for file assumed = assumed_meta (length file) assumed.page_size.bytes assumed.root

-- the meta of a file that is chosen, if the file has it
abbrev pub IsMetaOf : List ℕ → MetaChoice → Meta → Type 0
IsMetaOf file Active meta = HasActive file meta
IsMetaOf file (InSlot slot) meta = IsInSlot file slot meta
IsMetaOf file (Assumed assumed) meta = meta ≡ assumed_for file assumed

-- why it has none
abbrev pub HasNoMetaOf : List ℕ → MetaChoice → MetaFault → Type 0
HasNoMetaOf file Active fault = HasNoActive file fault
HasNoMetaOf file (InSlot slot) fault = HasNoneInSlot file slot fault
HasNoMetaOf file (Assumed assumed) fault = ⊥
