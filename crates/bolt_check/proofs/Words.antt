-- The words that the proofs of this crate cite, passed on from the modules that define them.
pub use Rattle.bolt_lemmas.specs.Lists.{Has}
pub use Rattle.bolt_check.specs.AccountFindings.{AreAccountFindings, IsAccountFinding, IsBefore, IsFreelistFinding, IsInRange, IsUnlistedPage, bad}
pub use Rattle.bolt_check.specs.AccountFindings.{freed_twice, out_of_range, reached_freed, shared, unreachable}
pub use Rattle.bolt_check.specs.Accounts.{HasAccounts, IsFree, IsInFreelist, IsInUse, ListsFree, times_in}
pub use Rattle.bolt_check.specs.EntrySpots.{places}
pub use Rattle.bolt_check.specs.Findings.{IsClaimedBefore, IsClean, IsCovered, IsFirst, IsMetaPage, PagePasses, PageTests, Passes, Tests, early}
pub use Rattle.bolt_check.specs.Findings.{early_finding, finding, inline_finding, keys_of, late, node_finding}
pub use Rattle.bolt_check.specs.Keys.{Key, is_above, is_below, is_from, key_lt, keys_order_fault}
pub use Rattle.bolt_check.specs.{Nodes.Entry, Nodes.InlinePage, Nodes.Node, Nodes.Nodes, Nodes.branch_entry, Nodes.inline_page, Nodes.leaf_entry}
pub use Rattle.bolt_check.specs.{Nodes.node_of, Nodes.node_seen, OnWays.IsOnWay}
pub use Rattle.bolt_check.specs.Private.Carries.{Carries}
pub use Rattle.bolt_check.specs.Private.Freelists.{AreAllFindings, AreFindingsBelow, ClaimsFreelist, ClaimsUses, HasFindingsTo, IsBeyondTo, IsPastTo}
pub use Rattle.bolt_check.specs.Private.Freelists.{IsUnlistedInterval, IsSettled, IsUnlisted, is_in_use, page_findings, interval_findings}
pub use Rattle.bolt_check.specs.{Private.Pending.forest, Private.Pending.somes, Private.Pending.spots_of, Private.SearchFaults.IsSearchFault}
pub use Rattle.bolt_check.specs.Private.Tables.{HasRoom, IsClaimed, IsUnclaimed, first_use, is_used, times_of, unclaimed, use_at}
pub use Rattle.bolt_check.specs.Private.Uses.{HasUse, IsMetaUse, IsNoted, use_of}
pub use Rattle.bolt_check.specs.{Roles.HasRole, Roles.IsFirstPage, Shape.HasShape, Shape.child_at, Shape.child_in, Shape.leads}
pub use Rattle.bolt_check.specs.ShownSpots.{bound_of, inline_keys, page_spot, shown_inner, spot_at}
pub use Rattle.bolt_check.specs.{Sound.HasRightAccounts, Sound.HasSoundTrees, Sound.IsFirstFinding, Sound.IsSound, Sound.IsUsed}
pub use Rattle.bolt_check.specs.{Tours.IsTour}
pub use Rattle.bolt_check.specs.Ways.{At_inline, At_page, Before, PageSpot, Reach, SpanAt, SpanHas, SpanOf, Spot, bucket_spot, child_spot, follow}
pub use Rattle.bolt_check.specs.Ways.{root_spot, step, step_entry, step_on, upper_from}
pub use Rattle.bolt_check.specs.{declared.checked.Checked.Checked, declared.check_fault.CheckFault.TheVariants.Structure}
pub use Rattle.bolt_check.specs.{declared.finding.Finding.Finding}
pub use Rattle.bolt_check.specs.declared.finding.TheConstants.Finding.{FREED_TWICE, FREE_RANGE, TWICE}
pub use Rattle.bolt_check.specs.{declared.listed_pages.Freelist.Freelist, declared.role_table.Role.Role, declared.table.PageUse.PageUse}
pub use Rattle.bolt_check.specs.declared.table.PageUse.TheVariants.{Free, FreeTwice, Unused, UsedFree, UsedFreeTwice}
pub use Rattle.bolt_format.specs.declared.tree_page.TreePage.{TreePage}
unfoldable pub use Rattle.bolt_check.specs.{CheckedFiles.bytes_of, CheckedFiles.meta_of, Claims.claims_file, Nodes.node_at, Private.Freelists.listed_times}
unfoldable pub use Rattle.bolt_check.specs.{Private.Pending.kids, RoledFiles.roles_checked, ShownNodes.shown_node}
pub use Rattle.bolt_format.proofs.Exports.{first_of-none, span_within}
pub use Rattle.bolt_format.specs.{ElementPlaces.leaf_view, Elements.BranchElement, Elements.LeafElement, Elements.head_root}
pub use Rattle.bolt_format.specs.{Freelists.free_ids_of, Freelists.freelist_fault_of, Pages.PageView, Pages.page_overflow, ShownGoodPages.shown}
pub use Rattle.bolt_format.specs.{ShownIds.shown_ids}
pub use Rattle.bolt_format.specs.{declared.header.Kind.Kind, declared.meta.Meta.Meta, declared.meta.Slot.Slot, declared.meta.TheConstants.NO_FREELIST}
unfoldable pub use Rattle.bolt_format.specs.{Freelists.freelist_fault, Pages.page_at, Pages.page_fault}
pub use Rattle.std.proofs.Math.Logic.{∥∥₁_elim, ∥∥₁_map}
pub use Rattle.std.proofs.Props.{props}
pub use Rattle.std.proofs.lemmas.Bool.{both_ways, cases_eq, cases_lt, cases_order, cond-false, cond-true, eq-eqb, false≢true, le-ltb, lt-ltb}
pub use Rattle.std.proofs.lemmas.Bool.{ltb-true, ne_eqb, not-true}
pub use Rattle.std.proofs.lemmas.Bool.Decides.{nat_tests}
pub use Rattle.std.proofs.lemmas.Grind.{merely}
pub use Rattle.std.proofs.lemmas.List.{get_or_default}
pub use Rattle.std.proofs.lemmas.List.Elements.{All-weaker}
pub use Rattle.std.proofs.lemmas.List.Sums.{sum_by-cons}
pub use Rattle.std.proofs.lemmas.Option.{none-some, same_Some, slice_get-map}
pub use Rattle.std.proofs.lemmas.Result.{IfOk-weaker}
pub use Rattle.std.specs.Option.{option_map}
pub use Rattle.std.specs.Prelude.{IsSome}
pub use Rattle.std.specs.declared.alloc.AllocError.{AllocError}
