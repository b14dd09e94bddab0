-- The words that the proofs of this crate cite, passed on from the modules that define them.
pub use Rattle.bolt_lemmas.proofs.Exports.{has_right}
pub use Rattle.bolt_lemmas.specs.Lists.{Has}
pub use Rattle.bolt_check.proofs.Exports.{one_tour, enough_kids, enough_node, follow_append}
pub use Rattle.bolt_check.specs.CheckedFiles.{bytes_of, meta_of}
pub use Rattle.bolt_check.specs.Nodes.{Node, Nodes, leaf_entry, node_at}
pub use Rattle.bolt_check.specs.Sound.{HasSoundTrees}
pub use Rattle.bolt_check.specs.{Subtrees.Enough, Subtrees.kid_pages, Subtrees.weight}
pub use Rattle.bolt_check.specs.Ways.{At_page, PageSpot, Spot, follow, reached, root_spot, step}
pub use Rattle.bolt_format.proofs.Exports.{drop_next}
pub use Rattle.bolt_format.specs.ElementPlaces.{branch_view, leaf_view}
pub use Rattle.bolt_format.specs.Elements.{BranchElement, LeafElement}
unfoldable pub use Rattle.bolt_format.specs.Pages.{page_at}
pub use Rattle.bolt_format.specs.ElementsLeft.{branches_left, leaves_left}
unfoldable pub use Rattle.bolt_format.specs.ShownGoodPages.{shown}
pub use Rattle.bolt_format.specs.TreePages.{branches_on, is_tree_kind, leaves_on, shown_page}
pub use Rattle.bolt_format.specs.declared.meta.Meta.{Meta}
pub use Rattle.bolt_stats.specs.Deepest.{deepest_from, deepest_of, depth_of, greatest, height_from, height_of, inline_depth, inner_inline, leaf_at}
pub use Rattle.bolt_stats.specs.Deepest.{counted_depth, child_pages}
pub use Rattle.bolt_stats.specs.Depths.{IsBucketIn, IsDeepest, IsDepth, IsHeight, inline, paged}
pub use Rattle.bolt_stats.specs.Figures.{Figure, bucket_figure, element_figure, figure, used_by_leaves}
pub use Rattle.bolt_check.specs.Counts.{saturated}
pub use Rattle.bolt_stats.specs.Readings.{AreGood, inner_pages, inner_roots, unread_numbers, one, own_figure, pages_in_bucket, root_page_of}
pub use Rattle.bolt_stats.specs.Readings.{roots_in_bucket, roots_of, total_of, unread_bucket, unread_page}
pub use Rattle.bolt_stats.specs.StatsOf.{IsStatsOf, tour_figure}
pub use Rattle.bolt_stats.specs.declared.bucket_stats.UnreadBucket.{UnreadBucket}
pub use Rattle.bolt_stats.specs.declared.bucket_stats.UnreadPage.{UnreadPage}
pub use Rattle.bolt_stats.specs.declared.figures.Stats.{Stats}
pub use Rattle.bolt_tree.specs.Buckets.{bucket_checked}
pub use Rattle.bolt_tree.specs.Entries.{Inline_page, IsStart, Root_page, Start}
pub use Rattle.std.proofs.Math.Logic.{∥∥₁_elim, ∥∥₁_map, ∥∥₁_prop}
pub use Rattle.std.proofs.Props.{props}
pub use Rattle.std.proofs.lemmas.Bool.{cases_Bool}
pub use Rattle.std.proofs.lemmas.List.{drop_all, map-append}
pub use Rattle.std.proofs.lemmas.List.Sums.{sum_by-cons}
pub use Rattle.std.proofs.lemmas.Option.{same_Some}
