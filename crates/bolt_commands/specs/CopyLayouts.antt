-- The layout of a copy, by what the copy is for: docs/LAYOUT.md.
use Rattle.bolt_layout.specs.{declared.Layout.Layout, declared.Layout.TheVariants.Balanced, declared.Layout.TheVariants.Plain}
use Rattle.bolt_job.specs.declared.choices.CopyKind.{CopyKind}
use Rattle.bolt_job.specs.declared.choices.CopyKind.TheVariants as kind

-- only a plain copy has the plain layout
abbrev pub layout_for : CopyKind → Layout
layout_for kind.Plain = Plain
layout_for _ = Balanced
