-- The words that the proofs of this crate cite, passed on from the modules that define them.
pub use Rattle.bolt_lemmas.proofs.Exports.{contains_cases, contains_from_has, contains_head, contains_none, contains_tail, filter_all, filter_none, get_before}
pub use Rattle.bolt_lemmas.proofs.Exports.{has_at, has_from_contains, has_left, has_right, has_split, less_of, map_has, passed_on, rises_append, rises_map}
pub use Rattle.bolt_lemmas.proofs.Exports.{rises_once}
pub use Rattle.bolt_lemmas.specs.Lists.{Each, Has, RisesBy}
pub use Rattle.bolt_lemmas.specs.Order.{Rises}
pub use Rattle.bolt_check.proofs.Exports.{claims_bytes, counted_none, visited_fits, passes_fewer, passes_silent, span_spot, tests_same, below_less}
pub use Rattle.bolt_check.proofs.Exports.{from_more, lt_not_trans, lt_trans, key_each, key_rise, shape_passes, sound_reports_nothing}
pub use Rattle.bolt_check.proofs.Exports.{node_below, node_within, length_entries, finding_none, shape_of, follow_append, key_at}
pub use Rattle.bolt_check.proofs.Exports.{leads_none, leaf_node_at, before_irreflexive, before_strict, before_trans}
unfoldable pub use Rattle.bolt_check.specs.CheckedFiles.{bytes_of, meta_of}
unfoldable pub use Rattle.bolt_check.specs.Claims.{claims_file, claims_meta, claims_visited, is_claimed}
unfoldable pub use Rattle.bolt_check.specs.Leftovers.{is_listed, is_taken, leftovers_file, leftovers_length, leftovers_meta}
unfoldable pub use Rattle.bolt_check.specs.{Nodes.node_at, ShownNodes.shown_node}
pub use Rattle.bolt_check.specs.Counts.{counted}
pub use Rattle.bolt_check.specs.Findings.{IsClaimedBefore, IsFirst, IsMetaPage, Passes, Tests, early_finding, finding, finding_of}
pub use Rattle.bolt_check.specs.Findings.{keys_of, late, node_finding, twice}
pub use Rattle.bolt_check.specs.Keys.{Key, KeysRise, is_below, is_from, key_cmp, key_lt, keys_order_fault}
pub use Rattle.bolt_check.specs.LoneLeaves.{IsListedFree, IsLoneLeaf}
pub use Rattle.bolt_check.specs.Nodes.{Entry, InlinePage, IsInSpan, Node, Nodes, leaf_entry}
pub use Rattle.bolt_check.specs.{Shape.child_at, Shape.child_in, Shape.child_of, Shape.leads, ShownSpots.page_spot, ShownSpots.spot_at}
pub use Rattle.bolt_check.specs.Sound.{HasSoundTrees}
pub use Rattle.bolt_check.specs.Ways.{At_inline, At_page, Before, PageSpot, Reach, SpanAt, SpanHas, Spot, bucket_spot, child_spot, follow}
pub use Rattle.bolt_check.specs.Ways.{reached, root_spot, step, step_at, step_entry, step_from, step_on, upper_from}
pub use Rattle.bolt_check.specs.declared.checked.Checked.{Checked}
pub use Rattle.bolt_check.specs.declared.finding.Finding.{Finding}
pub use Rattle.bolt_format.specs.{ElementPlaces.leaf_view, Elements.LeafElement, Elements.head_root, Elements.head_sequence, Elements.inline_elements}
pub use Rattle.bolt_format.specs.{declared.meta.Meta.Meta}
unfoldable pub use Rattle.bolt_format.specs.{Pages.page_at}
pub use Rattle.bolt_recover.specs.Found.{AreFound, AreFoundInAnyCase, AreSought, FoundBelow, IsFoundNext, IsFoundPage, found_numbers}
pub use Rattle.bolt_recover.specs.Joined.{HasBucketKey, IsElement, IsFoundMember, IsInnerMember, IsJoined, LacksBucketKey, LeavesRoom, found_tree}
pub use Rattle.bolt_recover.specs.Joined.{inside_of}
pub use Rattle.bolt_recover.specs.Joined.{is_found_path, joined_listing, lost_and_found, put_bucket, tree_of_elements}
pub use Rattle.bolt_recover.specs.PageGaps.{AreGaps, ForGaps, PageGapView, gaps_of, kept_gap, page_gap_view, spot_gap}
pub use Rattle.bolt_recover.specs.KeptPages.{AreKeptPages, IsKeptPage}
pub use Rattle.bolt_recover.specs.Losses.{AreLosses, LossView, everything, loss_at, loss_of, losses_of, lower_of, parts, upper_of}
pub use Rattle.bolt_recover.specs.{PageKeys.last_digits, PageKeys.page_key, PageWays.ArePageWays, PageWays.is_at_page, PageWays.page_ways}
pub use Rattle.bolt_recover.specs.Sites.{Site, elements_at, follow_sites, leaves_of, next_site, site_at, site_on, root_site, step_site}
pub use Rattle.bolt_recover.specs.Private.FoundLeft.{found_listing, found_pages_of}
pub use Rattle.bolt_recover.specs.Private.Frames.{Advances, AreOpenPages, Ends, GivesHead, StepsOn, IsAllLeft, IsContent, IsGoodKeptPage, IsGoodPage}
pub use Rattle.bolt_recover.specs.Private.Frames.{StepsAreOn, AreStepsPlaced}
pub use Rattle.bolt_recover.specs.Private.Frames.{IsShallow, ahead_tasks, claims_with, content_elements, content_site, content_size}
pub use Rattle.bolt_check.specs.Claims.{claims_nodes}
pub use Rattle.bolt_recover.specs.Private.Frames.{content_spot, members_left, open_tasks, page_tasks, page_weight, spot_site, step_path, steps_left}
pub use Rattle.bolt_recover.specs.Private.Frames.{steps_path, steps_weight, tally_of, tasks_left, way_of}
pub use Rattle.bolt_recover.specs.Private.Joining.{AreJoinable, first_cmp, holds_key}
pub use Rattle.bolt_recover.specs.Private.Courses.{Event, Given, Outcome, Task, To_give, To_visit, Visited, Way, after_event, after_events}
pub use Rattle.bolt_recover.specs.Private.Courses.{all_events}
pub use Rattle.bolt_recover.specs.Private.Courses.{claimed_after, claims_of, entry_tasks, further, give_all, gives_at, members_at, members_of}
pub use Rattle.bolt_recover.specs.Private.Courses.{meta_pages, outcome_of, page_visit, root_tasks, run_all, run_on, run_to, site_size, site_tasks}
pub use Rattle.bolt_recover.specs.Private.Courses.{span_of, tasks_after}
pub use Rattle.bolt_recover.specs.Private.Courses.{recovered_of, tasks_from, visit_at, visits_at, visits_of}
unfoldable pub use Rattle.bolt_recover.specs.Private.Courses.{events}
pub use Rattle.bolt_recover.specs.Private.Tests.{first_claimed, test}
pub use Rattle.bolt_recover.specs.Private.TreesLeft.{AreTreesOf, IsSearched, lost_of}
pub use Rattle.bolt_recover.specs.{Recovered.ForRecovered, Recovered.IsRecovered, Recovered.IsRecoveredMember, Recoveries.AreFirst}
pub use Rattle.bolt_recover.specs.{Recoveries.ForLosses}
pub use Rattle.bolt_recover.specs.Refusals.{IsRefusedRoot, KeepsRoot, LosesRoot}
pub use Rattle.bolt_recover.specs.{ShownFound.IsFoundView, ShownLosses.loss_view}
pub use Rattle.bolt_recover.specs.Surveys.{Gives, IsClaimedIn, IsOpen, IsSurvey, LosesNothing, Surveys, SurveyedWay, way_kept, lost}
pub use Rattle.bolt_format.specs.declared.tree_page.TreePage.{TreePage}
pub use Rattle.bolt_recover.specs.{declared.kept_page.KeptPage.KeptPage, declared.kept_page.OpenPage.OpenPage}
pub use Rattle.bolt_recover.specs.{declared.found_page.FoundPage.FoundPage}
pub use Rattle.bolt_recover.specs.declared.lost_and_found.Trees.TheVariants.{Damaged, Rootless, Sound}
pub use Rattle.bolt_recover.specs.{declared.steps.NextVisit.NextVisit}
unfoldable pub use Rattle.bolt_recover.specs.JoinedMembers.{joined_file, joined_left, joined_meta, joined_path}
unfoldable pub use Rattle.bolt_recover.specs.LostAndFound.{all_lost}
unfoldable pub use Rattle.bolt_recover.specs.Recoveries.{recovery_begun, recovery_claimed, recovery_file, recovery_left, recovery_losses}
unfoldable pub use Rattle.bolt_recover.specs.Recoveries.{recovery_meta, recovery_work}
pub use Rattle.bolt_tree.proofs.Exports.{contains_at}
pub use Rattle.bolt_tree.proofs.Exports.{before_longer, key_same, key_total, same_front, lists_once, member_total}
pub use Rattle.bolt_tree.specs.Entries.{Bucket, Inline_page, IsEntry, Item, Root_page, ShowsEntry, Start, Value, item_of, start_of}
pub use Rattle.bolt_tree.specs.{Listing.IsListing, Listing.Member, Listing.member_cmp}
pub use Rattle.bolt_tree.specs.{Paths.Holds, Paths.Names, Paths.Path, Paths.path_cmp, Paths.path_of, ShownEntries.item_view}
pub use Rattle.bolt_tree.specs.{Tree.Tree, Tree.end, Tree.listing_below, Tree.listing_of, Tree.tree_of, Tree.with_bucket, Tree.with_value}
pub use Rattle.bolt_tree.specs.{Walks.GivesNext}
unfoldable pub use Rattle.bolt_tree.specs.Walks.{left_of, walk_checked}
pub use Rattle.std.proofs.Math.Logic.{∥∥₁_elim, ∥∥₁_map}
pub use Rattle.std.proofs.Math.Nat.{lt_of_mul-lt-mul_right}
pub use Rattle.std.proofs.Props.{props}
pub use Rattle.std.proofs.lemmas.Bool.{cases_Bool, cases_lt, cases_order, cond_both, eqb-true, false_from_ne_true, false≢true, not-true, or_cases}
pub use Rattle.std.proofs.lemmas.Bool.{or_parts}
pub use Rattle.std.proofs.lemmas.Bool.Decides.{nat_tests}
pub use Rattle.std.proofs.lemmas.Cmp.{nat_cmp_total, tied_itself}
pub use Rattle.std.proofs.lemmas.Grind.{common_steps, merely}
pub use Rattle.std.proofs.lemmas.List.{append-nil, length-append, length-map, length-take-le, map-append, nil_from_length, take-append-drop}
pub use Rattle.std.proofs.lemmas.List.{take-append-le, take-map, take_all}
pub use Rattle.std.proofs.lemmas.List.Elements.{All-head, All-nil, All-push, All-tail, Contains-append_cases}
pub use Rattle.std.proofs.lemmas.List.Elements.{Contains-append_left, Contains-append_right, Contains-push_cases, filter-append}
pub use Rattle.std.proofs.lemmas.List.Sums.{sum_by-append, sum_by-cons}
pub use Rattle.std.proofs.lemmas.Result.{IfOk-weaker, on_err_weaker, on_ok_weaker}
pub use Rattle.std.proofs.lemmas.Option.{none-some, same_Some, slice_get-map, slice_get_cases, slice_get_within}
pub use Rattle.std.specs.Cmp.{both_ways, nat_cmp_is}
pub use Rattle.std.specs.List.{All, Contains, count_by}
pub use Rattle.std.specs.Option.{option_map, option_or, option_to_list}
pub use Rattle.std.specs.Ordering.{is_lt, nat_cmp}
pub use Rattle.std.specs.Prelude.{IsTrue}
pub use Rattle.std.specs.declared.cmp.Ordering.TheVariants.{Greater, Less}
