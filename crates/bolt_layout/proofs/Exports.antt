-- What the proofs of other crates may cite of this one. Its other modules of proofs are its own.
pub use Rattle.bolt_layout.proofs.BalancedRows.{from_ends_right, right_from_ends}
pub use Rattle.bolt_layout.proofs.BranchLemmas.{length-branch_headers, same_branch}
pub use Rattle.bolt_layout.proofs.FileTrees.{good_fits, good_inner, good_shown, held_fits}
pub use Rattle.bolt_layout.proofs.LaidItems.{length-elements}
pub use Rattle.bolt_layout.proofs.LastItem.{last_append}
pub use Rattle.bolt_layout.proofs.LeafLemmas.{length-leaf_headers}
pub use Rattle.bolt_layout.proofs.LimitsFromEnds.{from_ends_are, from_ends_by, root_from_ends}
pub use Rattle.bolt_layout.proofs.NotMuchLarger.{plain_not_much_larger}
pub use Rattle.bolt_layout.proofs.OpenedBuckets.{items_below, leaves_few, opened_few}
pub use Rattle.bolt_layout.proofs.OverRows.{numbers-append}
pub use Rattle.bolt_layout.proofs.PageRows.{overflow_room, overflow_small}
pub use Rattle.bolt_layout.proofs.PlainRows.{plain_right, plain_rows}
pub use Rattle.bolt_layout.proofs.RowEnds.{row_ends_are_one}
pub use Rattle.bolt_layout.proofs.SpanLemmas.{length-leaf_bytes}
pub use Rattle.bolt_layout.proofs.Tops.{shorter, top_above}
