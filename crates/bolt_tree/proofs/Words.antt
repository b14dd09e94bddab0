-- The words that the proofs of this crate cite, passed on from the modules that define them.
pub use Rattle.bolt_lemmas.proofs.Exports.{less_of}
pub use Rattle.bolt_lemmas.specs.Order.{IsBelow, Rises}
pub use Rattle.bolt_check.proofs.Exports.{checked_trees, good_on_way, good_page, with_trees, lt_not_trans, lt_strict, lt_trans}
pub use Rattle.bolt_check.proofs.Exports.{branch_entry_at, branch_key, branch_node, branch_step, inline_reached, leads_child, leaf_ends, leaf_key}
pub use Rattle.bolt_check.proofs.Exports.{node_is, on_address, on_child, shallow, spot_node, follow_append, leads_follow, one_way, leaf_node_at}
pub use Rattle.bolt_check.specs.{CheckedFiles.bytes_of, CheckedFiles.meta_of, Counts.counted, Keys.Key, Keys.KeysRise, Keys.key_cmp, Keys.key_lt}
pub use Rattle.bolt_check.specs.{Nodes.Entry, Nodes.Node, Nodes.Nodes, Nodes.branch_entry, Nodes.inline_page, Nodes.leaf_entry, Nodes.node_at}
pub use Rattle.bolt_check.specs.{OnWays.IsOnWay, Shape.leads}
pub use Rattle.bolt_check.specs.Sound.{HasSoundTrees}
pub use Rattle.bolt_check.specs.Ways.{At_page, Before, PageSpot, Spot, bucket_spots, follow, reached, root_spot, step_at}
pub use Rattle.bolt_check.specs.declared.checked.Checked.{Checked}
pub use Rattle.bolt_format.proofs.Exports.{drop_at, one_some, take_next, below_mark, bucket_value, flat_inline}
pub use Rattle.bolt_format.specs.ElementPlaces.{branch_view, leaf_view}
pub use Rattle.bolt_format.specs.Elements.{BranchElement, LeafElement, head_root, head_sequence, inline_elements}
pub use Rattle.bolt_format.specs.{Pages.PageView, Pages.page_at, TreePages.branches_on, TreePages.is_tree_kind, TreePages.leaves_on}
pub use Rattle.bolt_format.specs.{TreePages.page_keys}
pub use Rattle.bolt_format.specs.{TreePages.shown_page, declared.element.Leaf.Leaf, declared.header.Kind.Kind, declared.meta.Meta.Meta}
pub use Rattle.bolt_format.specs.{declared.tree_page.BranchPage.BranchPage, declared.tree_page.TreePage.TreePage}
pub use Rattle.bolt_tree.specs.BucketViews.{AreEntriesOf, BucketView, bucket_in, entries_of}
pub use Rattle.bolt_tree.specs.CursorBounds.{OpensByNext, OpensGap, OpensSeek, SeeksInBounds}
pub use Rattle.bolt_tree.specs.Entries.{AreEntries, EntryView, Inline_page, IsEntry, IsStart, Item, Root_page, ShowsEntry, Start, Value, entry_cmp}
pub use Rattle.bolt_tree.specs.Entries.{entry_view}
pub use Rattle.bolt_tree.specs.{Entries.item_of, Entries.start_of, FileListings.ForListing, FileListings.root_start}
pub use Rattle.bolt_tree.specs.FileTrees.{file_entries, tree_with, tree_within}
pub use Rattle.bolt_tree.specs.Listing.{IsListing, Lists, Member, member_cmp, rest_from}
pub use Rattle.bolt_tree.specs.OpeningCounts.{GapsCoverAll, HasCount, IsAddress, IsAfter, IsGap, IsHome, IsNear, IsNearFrom, IsNearest, IsPagesUpTo}
pub use Rattle.bolt_tree.specs.OpeningCounts.{IsSeekCount}
pub use Rattle.bolt_tree.specs.{OpeningCounts.IsSeekPage, OpeningCounts.IsUpTo, OpeningCounts.sum_to}
pub use Rattle.bolt_tree.specs.Paths.{HasEntries, Holds, Names, Path, path_cmp, path_of}
pub use Rattle.bolt_tree.specs.Places.{Fresh, Move, Moves, On, Past, Place, ShowsMove, first_move, last_move, least_from, next_move, nothing_at}
pub use Rattle.bolt_tree.specs.Places.{move_onto, place_in}
pub use Rattle.bolt_tree.specs.Places.{prev_move, seek_move}
pub use Rattle.bolt_tree.specs.Private.BucketPages.{IsSoundBucket, contents_in, elements_in, tour_pages_in, root_content}
pub use Rattle.bolt_tree.specs.Private.Contents.{Content, Contents, Of_branch, Of_leaf, content_by, content_keys, content_length, content_of}
pub use Rattle.bolt_tree.specs.Private.Contents.{content_seen}
pub use Rattle.bolt_tree.specs.Private.CursorViews.{AreCursorsOfFile, IsInnermost, Opens, cursor_view, fresh_view, innermost_views}
pub use Rattle.bolt_tree.specs.{Private.Entered.IsEntered, Private.Entered.opened_to, Private.Entered.taken_at, Private.Resting.IsResting}
pub use Rattle.bolt_tree.specs.{Private.Resting.place_by}
pub use Rattle.bolt_tree.specs.Private.Resting.{place_on}
pub use Rattle.bolt_tree.specs.Private.Kept.{AreKept, CursorView, IsKeptStack, kept_view, kept_views}
pub use Rattle.bolt_tree.specs.Private.OpenBuckets.{AreOpen, ComesNext, IsAhead, IsInPlace, IsInside, IsNamed, cursors_of, is_end, left_by, open_path}
pub use Rattle.bolt_tree.specs.Private.OpenBuckets.{reported_path, waiting_of}
pub use Rattle.bolt_tree.specs.Private.PageKeys.{IsNumberBefore, doubled, stands_before}
pub use Rattle.bolt_tree.specs.Private.Seeks.{AreBelow, IsBetween, IsNearTo, IsNearTop, IsOnWayDown, IsSought, top_address}
pub use Rattle.bolt_tree.specs.Private.ShownPages.{opened_content}
pub use Rattle.bolt_tree.specs.Private.Stacks.{Frame, HasStack, IsAtRest, IsBeside, IsBranchContent, IsBranchTop, IsGoodContent, IsLast}
pub use Rattle.bolt_tree.specs.Private.Stacks.{IsLeafContent}
pub use Rattle.bolt_tree.specs.Private.Stacks.{IsLeafTop, IsOn}
pub use Rattle.bolt_tree.specs.Private.Stacks.{IsStack}
pub use Rattle.bolt_tree.specs.Private.Stacks.{RestsOn, LeafStandsOn, address_on, ahead_of, pages_before, before_under, done_of, done_under, here_of}
pub use Rattle.bolt_tree.specs.Private.Stacks.{here_under}
pub use Rattle.bolt_tree.specs.Private.Stacks.{index_of, passed_under, preceding_of, later_of, later_under, under_at}
pub use Rattle.bolt_tree.specs.Private.Tours.{TourPage, all_under, content_at_start, tour_elements, pages_at, tour}
pub use Rattle.bolt_tree.specs.Private.Trails.{Finds, IsOfSoundTree, HasTrail, IsMoved, ahead, trail_entries_left, entries_to, frame_of, frames_of}
pub use Rattle.bolt_tree.specs.Private.Trails.{nearer, pages_left}
pub use Rattle.bolt_tree.specs.Private.Trails.{pages_ahead, pages_to, preceding}
pub use Rattle.bolt_tree.specs.Private.Trails.{Trail, pages_bucket, trail_bucket, trail_frames, trail_on}
pub use Rattle.bolt_tree.specs.{RestAfter.beyond, RestAfter.by_first, RestAfter.is_beyond, RestAfter.rest_after, ShownEntries.item_view}
pub use Rattle.bolt_tree.specs.Starts.{HasStart, start_at}
pub use Rattle.bolt_tree.specs.Tree.{IsTreeOf, Shows, Tree, end, first_tree, later_trees, listing_below, listing_of, put_first, tree_of}
pub use Rattle.bolt_tree.specs.Tree.{trees_by_depth}
pub use Rattle.bolt_tree.specs.{Tree.with_bucket, Tree.with_value, Walks.GivesNext, declared.bucket.Bucket.Bucket, declared.cursor.Cursor.Cursor}
pub use Rattle.bolt_tree.specs.{Cursors.cursor_trail, declared.bucket_pages.BucketPages.BucketPages, declared.stack.Position.Position}
unfoldable pub use Rattle.bolt_tree.specs.Buckets.{bucket_checked, bucket_start}
unfoldable pub use Rattle.bolt_tree.specs.{Cursors.cursor_checked, Cursors.cursor_place, Cursors.cursor_start, FileTrees.file_tree}
unfoldable pub use Rattle.bolt_tree.specs.{Pagers.pager_checked, Pagers.pager_opened, Private.Contents.content_at, Private.Stacks.passed_of}
unfoldable pub use Rattle.bolt_tree.specs.Walks.{walk_checked, walk_path}
pub use Rattle.std.proofs.Math.Logic.{∥∥₁_elim, ∥∥₁_map, ∥∥₁_prop}
pub use Rattle.std.proofs.Math.Seq.{drop-append_seam, take-append_seam, take-length, take-nil, take-suc-set}
pub use Rattle.std.proofs.Props.{props}
pub use Rattle.std.proofs.lemmas.Bool.{cases_Bool, cases_lt, false_from_ne_true, not-false, not-true}
pub use Rattle.std.proofs.lemmas.Bool.Decides.{nat_tests}
pub use Rattle.std.proofs.lemmas.Cmp.{lists_total, nat_list_cmp_total, on_total, tied_itself}
pub use Rattle.std.proofs.lemmas.List.{append_cancel_left, drop_all, get_or_default, length-append, length-drop, length-map, length-reverse}
pub use Rattle.std.proofs.lemmas.List.{length-set}
pub use Rattle.std.proofs.lemmas.List.{length-take, reverse-append, same_from_push, take-append-drop, take_all}
pub use Rattle.std.proofs.lemmas.List.Concat.{flat_map-append}
pub use Rattle.std.proofs.lemmas.List.Elements.{Contains-append_cases, Contains-append_left}
pub use Rattle.std.proofs.lemmas.List.Elements.{Contains-append_right}
pub use Rattle.std.proofs.lemmas.List.Sums.{fails_before_first, passes_at_first, prefix_len-le-length, take_while-cons}
pub use Rattle.std.proofs.lemmas.Option.{get_or_from_slice_get, none-some, same_Some, slice_get-get_or, slice_get-map, slice_get_past, slice_get_read}
pub use Rattle.std.proofs.lemmas.Option.{slice_get_within}
pub use Rattle.std.proofs.lemmas.Slice.Eq.{bytes_eq-Decides, starts_is}
pub use Rattle.std.specs.Cmp.{IsTotalOrder, both_ways}
pub use Rattle.std.specs.List.{Contains, flat_map, range_with_len, refill, take_while}
pub use Rattle.std.specs.Option.{is_none, option_map, option_to_list}
pub use Rattle.std.specs.Ordering.{is_lt, ordering_reverse, ordering_then}
pub use Rattle.std.specs.Prelude.{IfOk, IfSome, IsTrue, MatchOption, if◌then◌else◌}
pub use Rattle.std.specs.declared.cmp.Ordering.{Ordering}
pub use Rattle.std.specs.declared.cmp.Ordering.TheVariants.{Equal, Greater, Less}
