-- The figures of a bucket are one.
use Rattle.std.proofs.Common.{◌≡◌, ◌∙◌, ℕ, ◌+◌, ◌≤◌, List, sym, ap, refl, arith}
use Rattle.bolt_stats.proofs.Words.{bucket_figure, saturated, Figure, figure, inline, Inline_page, IsBucketIn, IsDeepest, IsDepth, IsHeight}
use Rattle.bolt_stats.proofs.Words.{IsStatsOf, Meta, node_at, Nodes, one_tour, paged, reached, Root_page, Start, Stats, tour_figure}
use Rattle.bolt_check.specs.Nodes.{Entry}
use Rattle.bolt_stats.specs.Figures.{buckets, inline_buckets, inline_used, keys, branch_pages, branch_overflow, branch_allocated, branch_used}
use Rattle.bolt_stats.specs.Figures.{leaf_pages, leaf_overflow, leaf_allocated, leaf_used}
use Rattle.bolt_stats.specs.StatsOf.{AreSums}

one_height : (nodes : Nodes) (root a b : ℕ) → IsHeight nodes root a → IsHeight nodes root b → a ≡ b
one_height nodes root a b h k = grind arith

not_deeper : (nodes : Nodes) (root a b : ℕ) (f g : Entry → ℕ) → ((e : Entry) → IsBucketIn nodes root e → f e ≡ g e) → IsDeepest nodes root f a
    → IsDeepest nodes root g b → a ≤ b
not_deeper nodes root a b f g same h k = grind arith

pub one_depth : (nodes : Nodes) {root : ℕ} {a b : ℕ} → IsDepth nodes root a → IsDepth nodes root b → a ≡ b
one_depth nodes inline inline = refl
one_depth nodes inline (paged h d depth ne height below deepest) = absurd (ne refl)
one_depth nodes (paged h d depth ne height below deepest) inline = absurd (ne refl)
one_depth nodes (paged {root} h d depth ne height below deepest) (paged k c other ne2 height2 below2 deepest2) =
    let same : (e : Entry) → IsBucketIn nodes root e → depth e ≡ other e = λ e is. one_depth nodes (below e is) (below2 e is) in
    let heights = one_height nodes root h k height height2 in
    let up = not_deeper nodes root d c depth other same deepest deepest2 in
    let down = not_deeper nodes root c d other depth (λ e is. sym (same e is)) deepest2 deepest in
    omega (arith, heights, up, down)

pub one_sum : (file : List ℕ) (meta : Meta) (root : ℕ) (a b : Stats) → AreSums file meta root a → AreSums file meta root b → (f : Figure)
    → figure f a ≡ figure f b
one_sum file meta root a b h k f =
    let reach = reached (node_at file meta) root in
    h.sums f ∙ ap (λ (tour : List (List ℕ)). saturated (bucket_figure f + tour_figure file meta f reach tour))
    (one_tour reach h.tour k.tour h.whole k.whole) ∙ sym (k.sums f)

-- any figures are those of a record
abbrev pub stats_from : (Figure → ℕ) → ℕ → Stats
stats_from sums deep = record {
  buckets = sums buckets;
  inline_buckets = sums inline_buckets;
  inline_used = sums inline_used;
  keys = sums keys;
  depth = deep;
  branch_pages = sums branch_pages;
  branch_overflow = sums branch_overflow;
  branch_allocated = sums branch_allocated;
  branch_used = sums branch_used;
  leaf_pages = sums leaf_pages;
  leaf_overflow = sums leaf_overflow;
  leaf_allocated = sums leaf_allocated;
  leaf_used = sums leaf_used;
}

same_stats : (a b : Stats) → ((f : Figure) → figure f a ≡ figure f b) → a.depth ≡ b.depth → a ≡ b
same_stats a b same deep = λ i. stats_from (λ f. same f i) (deep i)

pub one_stats : (file : List ℕ) (meta : Meta) (start : Start) (a b : Stats) → IsStatsOf file meta start a → IsStatsOf file meta start b → a ≡ b
one_stats file meta (Root_page root) a b h k =
    same_stats a b (one_sum file meta root a b h.sums k.sums)
    (h.shown ∙ ap saturated (one_depth (node_at file meta) h.deep k.deep) ∙ sym k.shown)
one_stats file meta (Inline_page elements) a b h k = same_stats a b (λ f. h.sums f ∙ sym (k.sums f)) (h.depth ∙ sym k.depth)
