-- The figures of buckets as a text: docs/COMMANDS.md, "stats".
use Rattle.std.specs.Prelude.{ℕ, List, [], ◌∷◌, Some, codes}
use Rattle.bolt_stats.specs.declared.figures.Stats.{Stats}
use Rattle.bolt_text.specs.declared.forms.FigureForm.{FigureForm}
use Rattle.bolt_report.specs.FigureForms.{Named, figures_text}

-- the thirteen figures of a bucket
abbrev pub stats_figures : Stats → List Named
stats_figures stats =
    (codes "buckets", Some stats.buckets)
    ∷ (codes "inline buckets", Some stats.inline_buckets)
    ∷ (codes "inline used", Some stats.inline_used)
    ∷ (codes "keys", Some stats.keys)
    ∷ (codes "depth", Some stats.depth)
    ∷ (codes "branch pages", Some stats.branch_pages)
    ∷ (codes "branch overflow", Some stats.branch_overflow)
    ∷ (codes "branch allocated", Some stats.branch_allocated)
    ∷ (codes "branch used", Some stats.branch_used)
    ∷ (codes "leaf pages", Some stats.leaf_pages)
    ∷ (codes "leaf overflow", Some stats.leaf_overflow)
    ∷ (codes "leaf allocated", Some stats.leaf_allocated)
    ∷ (codes "leaf used", Some stats.leaf_used) ∷ []

unfoldable pub stats_text : FigureForm → Stats → List ℕ
stats_text form stats = figures_text form (stats_figures stats)
