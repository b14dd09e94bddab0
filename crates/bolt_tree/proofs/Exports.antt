-- What the proofs of other crates may cite of this one. Its other modules of proofs are its own.
pub use Rattle.bolt_tree.proofs.AgreeingListings.{listing_along}
pub use Rattle.bolt_tree.proofs.AllEntries.{all_entries, checked_entries, entries_at}
pub use Rattle.bolt_tree.proofs.BucketWays.{flat, root_starts, starts_below, starts_named}
pub use Rattle.bolt_tree.proofs.CursorMoves.{ComesTo, comes_from, none_past}
pub use Rattle.bolt_tree.proofs.EntryOrder.{contains_at}
pub use Rattle.bolt_tree.proofs.Existing.{has_listing}
pub use Rattle.bolt_tree.proofs.Giving.{after_end}
pub use Rattle.bolt_tree.proofs.InBucketLemmas.{entry_of, members_have_parents, members_rise, tree_has_parents}
pub use Rattle.bolt_tree.proofs.Leaving.{TakesFirst, TheEntries, fewer_left, next_shows, next_stands, next_takes, nothing_shown, stands_on, takes}
pub use Rattle.bolt_tree.proofs.Leaving.{the_entries, the_one}
pub use Rattle.bolt_tree.proofs.Looking.{own_entries}
pub use Rattle.bolt_tree.proofs.Measured.{is_the_listing, walk_falls}
pub use Rattle.bolt_tree.proofs.MergeLemmas.{merge_bucket, merge_members, merge_none, merge_parents, merge_rises}
pub use Rattle.bolt_tree.proofs.Named.{entry_once, held_down, held_here, held_up, names_push}
pub use Rattle.bolt_tree.proofs.PagerLemmas.{counted_more}
pub use Rattle.bolt_tree.proofs.ParentedTrees.{parented_tree}
pub use Rattle.bolt_tree.proofs.PartLemmas.{begins_after, begins_by, begins_of, part_from_later, part_of_root}
pub use Rattle.bolt_tree.proofs.PathEntries.{held_once, held_or_none, item_known, named_once, named_or_none, names_no_further, start_known}
pub use Rattle.bolt_tree.proofs.PathOrder.{before_longer, beyond_less, beyond_or_longer, key_exact, key_same, key_total, path_exact}
pub use Rattle.bolt_tree.proofs.PathOrder.{path_total, same_front}
pub use Rattle.bolt_tree.proofs.ReadBack.{tree_back}
pub use Rattle.bolt_tree.proofs.RisingEntries.{entries_once, tour_entries}
pub use Rattle.bolt_tree.proofs.Single.{lists_once, member_total}
pub use Rattle.bolt_tree.proofs.TourLemmas.{before_sides, before_under}
