-- The figures of a bucket with all buckets below it: docs/COMMANDS.md, "stats".
-- They are sums over the set of its ways, stated as the rising list of exactly these.
use Rattle.std.specs.Prelude.{◌≡◌, ℕ, ◌+◌, List, sum_by, Option, Some, None}
use Rattle.bolt_format.specs.{Elements.LeafElement, Pages.page_at, declared.meta.Meta.Meta}
use Rattle.bolt_check.specs.{CheckedFiles.bytes_of, CheckedFiles.meta_of, Nodes.node_at, Tours.IsTour, Ways.At_inline, Ways.At_page, Ways.Reach}
use Rattle.bolt_check.specs.{Ways.Spot, Ways.reached, Counts.saturated}
use Rattle.bolt_tree.specs.{Buckets.bucket_checked, Buckets.bucket_start, declared.bucket.Bucket.Bucket, Entries.Inline_page, Entries.Root_page}
use Rattle.bolt_tree.specs.{Entries.Start}
use Rattle.bolt_stats.specs.{Depths.IsDepth, Figures.Figure, Figures.bucket_figure, Figures.figure, Figures.inline_figure, Figures.page_figure}
use Rattle.bolt_stats.specs.{declared.figures.Stats.Stats}

-- the figures of where a way leads; an inline bucket's are those of the page that holds it
abbrev pub spot_figure : List ℕ → Meta → Figure → Option Spot → ℕ
spot_figure file meta f None = 0
spot_figure file meta f (Some (At_page s)) = page_figure f meta.page_size (page_at file meta s.number)
spot_figure file meta f (Some (At_inline host inner)) = 0

-- the sum of a figure over all these ways
abbrev pub tour_figure : List ℕ → Meta → Figure → Reach → List (List ℕ) → ℕ
tour_figure file meta f reach tour = sum_by (λ way. spot_figure file meta f (reach way)) tour

-- the figures of a bucket with this root page: of the bucket itself, and of the pages of its tour
pub record AreSums (file : List ℕ) (meta : Meta) (root : ℕ) (stats : Stats) : Type 0 where
  pub tour : List (List ℕ)
  pub whole : IsTour (reached (node_at file meta) root) tour
  pub sums : (f : Figure) → figure f stats ≡ saturated (bucket_figure f + tour_figure file meta f (reached (node_at file meta) root) tour)

pub record IsPagedStats (file : List ℕ) (meta : Meta) (root : ℕ) (stats : Stats) : Type 0 where
  pub sums : AreSums file meta root stats
  pub depth : ℕ
  pub deep : IsDepth (node_at file meta) root depth
  pub shown : stats.depth ≡ saturated depth

-- the figures of an inline bucket with these elements
pub record IsInlineStats (elements : List LeafElement) (stats : Stats) : Type 0 where
  pub sums : (f : Figure) → figure f stats ≡ saturated (inline_figure f elements)
  pub depth : stats.depth ≡ 1

abbrev pub IsStatsOf : List ℕ → Meta → Start → Stats → Type 0
IsStatsOf file meta (Root_page root) stats = IsPagedStats file meta root stats
IsStatsOf file meta (Inline_page elements) stats = IsInlineStats elements stats

-- the figures of a bucket of a file that passed its tests
abbrev pub AreStats : Bucket → Stats → Type 0
AreStats bucket stats = IsStatsOf (bytes_of (bucket_checked bucket)) (meta_of (bucket_checked bucket)) (bucket_start bucket) stats
