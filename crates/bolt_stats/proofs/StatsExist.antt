-- The figures of a bucket exist, and are those that the reading of its pages returns.
use Rattle.std.proofs.Common.{◌≡◌, ◌≢◌, ◌∙◌, ℕ, suc, ◌+◌, ◌≤◌, ◌⊎◌, inl, inr, Bool, true, false, List, [], ◌==◌, ◌∷◌, ◌++◌, Option, Some, None}
use Rattle.std.proofs.Common.{Result, Ok, Err, if◌then◌else◌, sum_by, refl, sym, ap, subst, arith}
use Rattle.bolt_stats.proofs.Words.{AreGood, At_page, bucket_figure, saturated, depth_of, Enough, Figure, figure, follow, follow_append}
use Rattle.bolt_stats.proofs.Words.{HasSoundTrees, Inline_page, IsDepth, IsStart, IsStatsOf, Meta, Node, node_at, Nodes, one_tour, own_figure}
use Rattle.bolt_stats.proofs.Words.{PageSpot, reached, Root_page, root_spot, Spot, Start, Stats, step, sum_by-cons, total_of, tour_figure, weight}
use Rattle.bolt_stats.proofs.{DepthExists.AllFilled, DepthExists.depth_is, StatsOnce.stats_from}
use Rattle.bolt_check.specs.{Nodes.Entry, OnWays.IsOnWay, Ways.At_inline, Ways.SpanHas, Ways.step_at, Ways.step_entry}
use Rattle.bolt_check.proofs.Exports.{bucket_sum, spot_weight, in_own_span}
use Rattle.bolt_stats.specs.{Figures.inline_figure, StatsOf.IsPagedStats, StatsOf.spot_figure}

-- A page that a way leads to is its bucket's root page, or at depth 2 or more.
abbrev IsRootOrBelow : PageSpot → Type 0
IsRootOrBelow s = (s ≡ root_spot s.number) ⊎ (2 ≤ s.depth)

abbrev Stands : Option Spot → Type 0
Stands None = Unit {0}
Stands (Some (At_page s)) = IsRootOrBelow s
Stands (Some (At_inline host inner)) = Unit {0}

bucket_stands : (host : ℕ) (e : Entry) (b small : Bool)
    → Stands (if b then Some (if small then At_inline host e.inner else At_page (root_spot e.child)) else None)
bucket_stands host e false small = tt
bucket_stands host e true true = tt
bucket_stands host e true false = inl refl

below_root : (s : PageSpot) → IsRootOrBelow s → 2 ≤ suc s.depth
below_root s (inl e) = let one = ap (λ (t : PageSpot). t.depth) e in omega (arith, one)
below_root s (inr h) = omega (arith, h)

entry_stands : (is_leaf : Bool) (s : PageSpot) (o next : Option Entry) → IsRootOrBelow s → Stands (step_entry is_leaf s o next)
entry_stands is_leaf s None next h = tt
entry_stands false s (Some e) next h = inr (below_root s h)
entry_stands true s (Some e) next h = bucket_stands s.number e e.is_bucket (e.child == 0)

page_stands : (r : Result Node ℕ) (s : PageSpot) (i : ℕ) → IsRootOrBelow s → Stands (step_at r s i)
page_stands (Err fault) s i h = tt
page_stands (Ok node) s i h = entry_stands node.is_leaf s _ _ h

step_stands : (nodes : Nodes) (here : Option Spot) (i : ℕ) → Stands here → Stands (step nodes here i)
step_stands nodes None i h = tt
step_stands nodes (Some (At_page s)) i h = page_stands (nodes s.number) s i h
step_stands nodes (Some (At_inline host inner)) i h = tt

follow_stands : (nodes : Nodes) (here : Option Spot) (way : List ℕ) → Stands here → Stands (follow nodes here way)
follow_stands nodes here [] h = h
follow_stands nodes here (i ∷ way) h = follow_stands nodes (step nodes here i) way (step_stands nodes here i h)

module _ (file : List ℕ) (meta : Meta) where
  abbrev nodes : Nodes
  nodes = node_at file meta

  -- so a page at depth 1 is its bucket's root page
  root_on_way : (root : ℕ) → IsOnWay file meta root 1 → (way : List ℕ) × (reached nodes meta.root way ≡ Some (At_page (root_spot root)))
  root_on_way root on = (
    on.way,
    on.led ∙ ap (λ (s : PageSpot). Some (At_page s))
        (is_start (subst Stands on.led (follow_stands nodes (Some (At_page (root_spot meta.root))) on.way (inl refl)))),
  )
    where
      is_start : IsRootOrBelow on.spot → on.spot ≡ root_spot root
      is_start (inl e) = e ∙ ap root_spot on.is
      is_start (inr deep) = let one = on.deep in absurd (let no : ⊥ = omega (arith, deep, one) in no)

  module _ (trees : HasSoundTrees file meta) (root : ℕ) (on : IsOnWay file meta root 1) where
    good_pages : Enough nodes meta.high_water root
    good_pages = let (way, leads) = root_on_way root on in (bucket_sum file meta trees way root leads (λ n. 0)).0

    pub are_good : AreGood file meta (root ∷ [])
    are_good m (inl e) = subst (Enough nodes meta.high_water) e good_pages
    are_good m (inr h) = absurd h

    all_filled : AllFilled nodes meta.high_water (root_spot root)
    all_filled v s node leads page leaf =
        let (way, at) = root_on_way root on in
        trees.filled (way ++ v) s node
        (follow_append nodes (Some (At_page (root_spot meta.root))) way v ∙ ap (λ (o : Option Spot). follow nodes o v) at ∙ leads) page leaf

    not_zero : root ≢ 0
    not_zero e =
        let (way, at) = root_on_way root on in
        let good = (trees.good way (root_spot root) at).1 in
        let two = trees.above_metas way root (subst (λ (o : Option Spot). SpanHas nodes o root) (sym at) (in_own_span nodes (root_spot root) good.0 good.1)) in
        omega (arith, two, e)

    root_depth : IsDepth nodes root (depth_of file meta root)
    root_depth = depth_is nodes meta.high_water root good_pages all_filled not_zero

    same_weight : (f : Figure) (o : Option Spot) → spot_figure file meta f o ≡ spot_weight nodes (own_figure file meta f) o
    same_weight f None = refl
    same_weight f (Some (At_page s)) = refl
    same_weight f (Some (At_inline host inner)) = refl

    -- the sums over the bucket's tour, and its depth
    pub paged_stats_are : (stats : Stats)
        → ((f : Figure) → figure f stats ≡ saturated (bucket_figure f + total_of file meta (own_figure file meta f) (root ∷ [])))
        → stats.depth ≡ saturated (depth_of file meta root)
        → IsPagedStats file meta root stats
    paged_stats_are stats sums deep =
        let (way, leads) = root_on_way root on in
        let (_, (tour, whole, _)) = bucket_sum file meta trees way root leads (λ n. 0) in
        record {
          sums = record {
            tour = tour;
            whole = whole;
            sums = λ f.
                let own = own_figure file meta f in
                let (_, (other, is, sum)) = bucket_sum file meta trees way root leads own in
                let same : tour_figure file meta f (reached nodes root) tour ≡ sum_by (λ way. spot_weight nodes own (reached nodes root way)) tour
                = λ i. sum_by (λ way. same_weight f (reached nodes root way) i) tour in
                let one = ap (sum_by (λ way. spot_weight nodes own (reached nodes root way))) (one_tour (reached nodes root) tour other whole is) in
                let cons = sum_by-cons (weight nodes own meta.high_water) root [] in
                let read = sums f in
                omega (arith, same, one, sum, cons, read);
          };
          depth = depth_of file meta root;
          deep = root_depth;
          shown = deep;
        }

figure_from : (sums : Figure → ℕ) (deep : ℕ) (f : Figure) → figure f (stats_from sums deep) ≡ sums f
figure_from sums deep f = grind arith

pub some_stats : (file : List ℕ) (meta : Meta) (start : Start) → HasSoundTrees file meta → IsStart file meta start
    → (stats : Stats) × IsStatsOf file meta start stats
some_stats file meta (Root_page root) trees on =
    let sums : Figure → ℕ = λ f. saturated (bucket_figure f + total_of file meta (own_figure file meta f) (root ∷ [])) in
    (stats_from sums (saturated (depth_of file meta root)), paged_stats_are file meta trees root on _ (figure_from sums _) refl)
some_stats file meta (Inline_page elements) trees on =
    let sums : Figure → ℕ = λ f. saturated (inline_figure f elements) in
    (stats_from sums 1, record { sums = figure_from sums 1; depth = refl })
