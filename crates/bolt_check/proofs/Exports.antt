-- What the proofs of other crates may cite of this one. Its other modules of proofs are its own.
pub use Rattle.bolt_check.proofs.AccountsAlong.{SameFreelist}
pub use Rattle.bolt_check.proofs.Agreeing.{Agree, accounts_along, same_nodes, same_pages, trees_along}
pub use Rattle.bolt_check.proofs.CheckedLemmas.{checked_trees, good_on_way, good_page, with_trees}
pub use Rattle.bolt_check.proofs.ClaimLemmas.{claims_bytes, counted_none, visited_fits}
pub use Rattle.bolt_check.proofs.Forest.{follow_none, follow_some}
pub use Rattle.bolt_check.proofs.Judging.{passes_fewer, passes_silent, span_spot, tests_same}
pub use Rattle.bolt_check.proofs.KeyLaws.{below_less, from_more, lt_not_trans, lt_strict, lt_trans}
pub use Rattle.bolt_check.proofs.KeyOrder.{key_each, key_rise}
pub use Rattle.bolt_check.proofs.KnownPages.{is_tree, opened_as, some_tree}
pub use Rattle.bolt_check.proofs.Lawful.{shape_passes, sound_reports_nothing}
pub use Rattle.bolt_check.proofs.LeafDepths.{child_leaves, leaves_along, leaves_same, own_leaves}
pub use Rattle.bolt_check.proofs.LeafLemmas.{lone_free, lone_same, lone_span}
pub use Rattle.bolt_check.proofs.HighWaterLemmas.{node_below, node_within}
pub use Rattle.bolt_check.proofs.NodeLemmas.{length_entries, node_shown}
pub use Rattle.bolt_check.proofs.RoleFacts.{first_shown, freelist_shown, one_role, past_is_free, size_positive, some_roles, with_accounts}
pub use Rattle.bolt_check.proofs.Shaping.{finding_none, shape_of}
pub use Rattle.bolt_check.proofs.Single.{tests_one}
pub use Rattle.bolt_check.proofs.TourLemmas.{one_tour}
pub use Rattle.bolt_check.proofs.TourSums.{bucket_sum, enough_kids, enough_node, enough_shown, spot_weight, weight_kids}
pub use Rattle.bolt_check.proofs.TreePages.{IsTreePage, a_branch, a_leaf, branch_entry_at, branch_key, branch_node, branch_step, inline_reached}
pub use Rattle.bolt_check.proofs.TreePages.{leads_child, leaf_ends, leaf_key, leaf_node, node_is, on_address, on_child, on_way_page, shallow}
pub use Rattle.bolt_check.proofs.TreePages.{spot_node, tree_page}
pub use Rattle.bolt_check.proofs.WayFacts.{follow_append, in_own_span, key_at, leads_follow, leads_none, leaf_node_at, one_way, step_child}
pub use Rattle.bolt_check.proofs.WayOrder.{before_irreflexive, before_strict, before_trans}
