-- The figures of buckets: docs/COMMANDS.md, "stats".
use Rattle.std.specs.Prelude.{◌≡◌, ◌==◌, ℕ, ◌+◌, ◌*◌, max, List, length, sum_by, Option, Some, None, if◌then◌else◌}
use Rattle.bolt_format.specs.{Elements.BranchElement, Elements.LeafElement, Elements.head_root, Elements.inline_elements, Pages.PageView}
use Rattle.bolt_format.specs.{declared.header.Kind.Kind}
use Rattle.bolt_format.specs.declared.header.Kind.TheVariants as kind
use Rattle.bolt_stats.specs.declared.figures.Stats.{Stats}
use Rattle.bolt_check.specs.Counts.{saturated}

-- which figure; depth is none of them, as it is no sum
pub data Figure : Type 0 where
  buckets : Figure
  inline_buckets : Figure
  inline_used : Figure
  keys : Figure
  branch_pages : Figure
  branch_overflow : Figure
  branch_allocated : Figure
  branch_used : Figure
  leaf_pages : Figure
  leaf_overflow : Figure
  leaf_allocated : Figure
  leaf_used : Figure

abbrev pub figure : Figure → Stats → ℕ
figure buckets stats = stats.buckets
figure inline_buckets stats = stats.inline_buckets
figure inline_used stats = stats.inline_used
figure keys stats = stats.keys
figure branch_pages stats = stats.branch_pages
figure branch_overflow stats = stats.branch_overflow
figure branch_allocated stats = stats.branch_allocated
figure branch_used stats = stats.branch_used
figure leaf_pages stats = stats.leaf_pages
figure leaf_overflow stats = stats.leaf_overflow
figure leaf_allocated stats = stats.leaf_allocated
figure leaf_used stats = stats.leaf_used

-- each figure of these is that number, or saturates
abbrev pub HasFigures : Stats → (Figure → ℕ) → Type 0
HasFigures stats number = (f : Figure) → figure f stats ≡ saturated (number f)

-- sums, but the greater depth
abbrev pub add_stats : Stats → Stats → Stats
add_stats a b = record {
  buckets = saturated (a.buckets + b.buckets);
  inline_buckets = saturated (a.inline_buckets + b.inline_buckets);
  inline_used = saturated (a.inline_used + b.inline_used);
  keys = saturated (a.keys + b.keys);
  depth = max a.depth b.depth;
  branch_pages = saturated (a.branch_pages + b.branch_pages);
  branch_overflow = saturated (a.branch_overflow + b.branch_overflow);
  branch_allocated = saturated (a.branch_allocated + b.branch_allocated);
  branch_used = saturated (a.branch_used + b.branch_used);
  leaf_pages = saturated (a.leaf_pages + b.leaf_pages);
  leaf_overflow = saturated (a.leaf_overflow + b.leaf_overflow);
  leaf_allocated = saturated (a.leaf_allocated + b.leaf_allocated);
  leaf_used = saturated (a.leaf_used + b.leaf_used);
}

-- the bytes that elements use, with their page's header
abbrev pub used_by_branches : List BranchElement → ℕ
used_by_branches elements = 16 + sum_by (λ (e : BranchElement). 16 + length e.key) elements

abbrev pub used_by_leaves : List LeafElement → ℕ
used_by_leaves elements = 16 + sum_by (λ (e : LeafElement). 16 + length e.key + length e.value) elements

abbrev pub inline_figure : Figure → List LeafElement → ℕ
inline_figure buckets elements = 1
inline_figure inline_buckets elements = 1
inline_figure inline_used elements = used_by_leaves elements
inline_figure keys elements = length elements
inline_figure _ elements = 0

-- a bucket with a root page, whose pages are counted by themselves
abbrev pub bucket_figure : Figure → ℕ
bucket_figure buckets = 1
bucket_figure _ = 0

-- what an element of a leaf adds: the figures of its bucket
abbrev pub element_figure : Figure → LeafElement → ℕ
element_figure f e = if e.is_bucket then (if head_root e.value == 0 then inline_figure f (inline_elements e.value) else bucket_figure f) else 0

abbrev pub allocated : ℕ → PageView → ℕ
allocated page_size view = (1 + view.overflow) * page_size

abbrev pub branch_figure : Figure → ℕ → PageView → ℕ
branch_figure branch_pages page_size view = 1
branch_figure branch_overflow page_size view = view.overflow
branch_figure branch_allocated page_size view = allocated page_size view
branch_figure branch_used page_size view = used_by_branches view.branches
branch_figure _ page_size view = 0

abbrev pub leaf_figure : Figure → ℕ → PageView → ℕ
leaf_figure keys page_size view = length view.leaves
leaf_figure leaf_pages page_size view = 1
leaf_figure leaf_overflow page_size view = view.overflow
leaf_figure leaf_allocated page_size view = allocated page_size view
leaf_figure leaf_used page_size view = used_by_leaves view.leaves
leaf_figure _ page_size view = 0

-- the figures of a page, with the inline buckets in it
abbrev pub kind_figure : Kind → Figure → ℕ → PageView → ℕ
kind_figure kind.Branch f page_size view = branch_figure f page_size view
kind_figure kind.Leaf f page_size view = leaf_figure f page_size view + sum_by (element_figure f) view.leaves
kind_figure _ f page_size view = 0

abbrev pub page_figure : Figure → ℕ → Option PageView → ℕ
page_figure f page_size None = 0
page_figure f page_size (Some view) = kind_figure view.kind f page_size view
