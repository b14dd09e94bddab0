-- What `stats` answers: docs/COMMANDS.md, "stats".
use Rattle.std.specs.Prelude.{◌≡◌, ◌⊎◌, ℕ, List, [], ◌∷◌, Bool, true, false}
use Rattle.bolt_format.specs.{Elements.LeafElement, declared.meta.Meta.Meta}
use Rattle.bolt_report.specs.StatsLines.{stats_text}
use Rattle.bolt_stats.specs.{Figures.add_stats, StatsOf.IsStatsOf, declared.figures.Stats.Stats}
use Rattle.bolt_text.specs.declared.forms.FigureForm.{FigureForm}
use Rattle.bolt_tree.specs.{Entries.AreEntries, Entries.IsEntry, Entries.Root_page, Entries.Start, Entries.start_of, Paths.Path}
use Rattle.bolt_commands.specs.declared.failure.Failure.TheVariants as failure
use Rattle.bolt_job.specs.{declared.bucket_commands.StatsJob.StatsJob, PlainWords.owned_path}
use Rattle.bolt_commands.specs.{Answers.Answer, Answers.done, Answers.refused, FilesRead.IsReadAnswer, FilesRead.LeadsNowhere, FilesRead.LeadsTo}

abbrev pub no_stats : Stats
no_stats = record {
  buckets = 0;
  inline_buckets = 0;
  inline_used = 0;
  keys = 0;
  depth = 0;
  branch_pages = 0;
  branch_overflow = 0;
  branch_allocated = 0;
  branch_used = 0;
  leaf_pages = 0;
  leaf_overflow = 0;
  leaf_allocated = 0;
  leaf_used = 0;
}

-- what an entry adds to the figures so far: those of its bucket, if it is one
abbrev pub AddsBy : Bool → List ℕ → Meta → LeafElement → (before after : Stats) → Type 0
AddsBy true file meta e before after = (own : Stats) × IsStatsOf file meta (start_of e.value) own × (after ≡ add_stats before own)
AddsBy false file meta e before after = after ≡ before

abbrev pub AddsEntry : List ℕ → Meta → LeafElement → (before after : Stats) → Type 0
AddsEntry file meta e before after = AddsBy e.is_bucket file meta e before after

-- the figures of the buckets among these entries, added to those so far
abbrev pub IsTotal : List ℕ → Meta → List LeafElement → (before total : Stats) → Type 0
IsTotal file meta [] before total = total ≡ before
IsTotal file meta (e ∷ entries) before total = (after : Stats) × AddsEntry file meta e before after × IsTotal file meta entries after total

-- the figures of the bucket that the path leads to, with all in it; the root bucket's are the sum over its buckets
abbrev pub HasStats : List ℕ → Path → Meta → Stats → Type 0
HasStats file [] meta stats =
    (entries : List LeafElement) × ∥ AreEntries (IsEntry file meta) (Root_page meta.root) entries × IsTotal file meta entries no_stats stats ∥₁
HasStats file (part ∷ path) meta stats = (bucket : Start) × ∥ LeadsTo file meta (part ∷ path) bucket × IsStatsOf file meta bucket stats ∥₁

-- the figures; or the path leads to no bucket; or memory ran out before anything was written
abbrev pub IsStatsAnswer : List ℕ → Path → FigureForm → Meta → Answer → Type 0
IsStatsAnswer file path form meta answer =
    ((stats : Stats) × HasStats file path meta stats × (answer ≡ done (stats_text form stats)))
    ⊎ (LeadsNowhere file meta path × (answer ≡ refused failure.NoBucket))
    ⊎ (answer ≡ refused failure.Memory)

abbrev pub IsStatsPrint : StatsJob → List ℕ → Answer → Type 0
IsStatsPrint job file answer = IsReadAnswer file job.meta (IsStatsAnswer file (owned_path job.path.items) job.form) answer
