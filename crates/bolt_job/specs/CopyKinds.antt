-- The kinds of copies: docs/COMMANDS.md, "What a run writes".
use Rattle.std.specs.Prelude.{Bool, true, false}
use Rattle.bolt_job.specs.declared.choices.CopyKind.{CopyKind}
use Rattle.bolt_job.specs.declared.choices.CopyKind.TheVariants as kind

-- whether a copy of this kind ends with its hash
abbrev pub is_snapshot : CopyKind → Bool
is_snapshot kind.EtcdSnapshot = true
is_snapshot _ = false
