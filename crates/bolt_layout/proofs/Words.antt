-- The words that the proofs of this crate cite, passed on from the modules that define them.
pub use Rattle.bolt_lemmas.proofs.Exports.{contains_cases, contains_head, contains_none, contains_tail}
pub use Rattle.bolt_lemmas.specs.Order.{IsBelow, Rises}
pub use Rattle.bolt_check.proofs.Exports.{follow_none}
pub use Rattle.bolt_check.specs.{EntrySpots.places, Findings.finding_of, Findings.inline_finding, Findings.keys_of, Findings.node_finding}
pub use Rattle.bolt_check.specs.Keys.{Key, is_below, is_from, key_cmp, key_lt, keys_order_fault}
pub use Rattle.bolt_check.specs.{Nodes.Entry, Nodes.InlinePage, Nodes.Node, Nodes.Nodes, Nodes.inline_page, Nodes.leaf_entry, Nodes.node_of}
pub use Rattle.bolt_check.specs.{Sound.HasSoundTrees}
pub use Rattle.bolt_check.specs.Ways.{At_inline, At_page, PageSpot, Spot, bucket_spots, follow, reached, root_spot}
unfoldable pub use Rattle.bolt_check.specs.Nodes.{node_at}
pub use Rattle.bolt_format.proofs.Exports.{first_of-both, part_next, part_read, part_within, largest_page, size_bounds, head_written, header_written}
pub use Rattle.bolt_format.proofs.Exports.{length-header_bytes, chosen_of, length-meta_bytes, meta_header_written, meta_written}
unfoldable pub use Rattle.bolt_format.specs.{Bytes.fnv_of, Bytes.fnv_step, Elements.leaf_elements, Elements.leaves_fault, Elements.value_fault}
unfoldable pub use Rattle.bolt_format.specs.Pages.{page_at, page_fault, span_fault}
unfoldable pub use Rattle.bolt_format.specs.Encoded.{branch_header, head_bytes, header_bytes, leaf_header, meta_bytes, meta_record, number_bytes}
pub use Rattle.bolt_format.specs.Elements.{BranchElement, LeafElement, element_at, faults_from, head_root, head_sequence, inline_elements}
pub use Rattle.bolt_format.specs.Elements.{leaf_element, table_fault}
pub use Rattle.bolt_format.specs.{Headers.count_field, Headers.flags_field, Metas.IsActive, Metas.IsMeta, Metas.IsPageSize, Pages.PageView}
pub use Rattle.bolt_format.specs.{ReadBack.IsHeaderFit, declared.header.Kind.Kind, declared.meta.Meta.Meta}
pub use Rattle.bolt_format.specs.declared.meta.Slot.TheVariants.{One, Zero}
pub use Rattle.bolt_layout.specs.Copies.{IsAsked, IsOfOneTree}
pub use Rattle.bolt_layout.specs.Cut.{branch_cut, cut_from, cut_of, join_last, joins, max_items, run_size}
pub use Rattle.bolt_layout.specs.Divisions.{IsDivided, IsPageRun}
pub use Rattle.bolt_layout.specs.Items.{bucket_item, holds_bucket, is_inline, items_of, leaf_item, stored_bucket}
pub use Rattle.bolt_layout.specs.Laid.{Laid, Placed, elements_of, numbers_of, pages_of, size_of}
pub use Rattle.bolt_layout.specs.Layout.{layout_held, layout_high_water, layout_meta, layout_pages, layout_root, placed_bytes}
pub use Rattle.bolt_layout.specs.Levels.{branch_page_view, leaf_level, leaf_page_view, next_level, page_over, run_overflow, top_in}
pub use Rattle.bolt_layout.specs.Limits.{AreRowEnds, HaveRightLimits, cut_row, last_length, limit_at, limits_from_ends}
pub use Rattle.bolt_layout.specs.Openings.{AreFromEnds, AreRight, leaf_pages, opened_by, opened_in, row_ends_of}
pub use Rattle.bolt_layout.specs.PageBytes.{branch_data, branch_headers, copy_meta, key_pos, leaf_data, leaf_headers}
pub use Rattle.bolt_layout.specs.{Storable.HasLengths, Storable.IsStorable, Storable.RisesInside, Storable.keys_in, declared.Layout.Layout}
pub use Rattle.bolt_layout.specs.declared.Layout.TheVariants.{Balanced, Plain}
unfoldable pub use Rattle.bolt_layout.specs.{Items.root_of, Layout.layout_of, Levels.overflow_of, Levels.root_over}
unfoldable pub use Rattle.bolt_layout.specs.PageBytes.{branch_bytes, freelist_page, inline_value, leaf_bytes, meta_page, page_bytes}
pub use Rattle.bolt_tree.specs.{Entries.Inline_page, Entries.IsEntry, Entries.Root_page, Entries.Start, Entries.start_of, Listing.Member}
pub use Rattle.bolt_tree.specs.Paths.{Path}
pub use Rattle.bolt_tree.specs.Tree.{IsTreeOf, Tree, end, listing_below, listing_of, tree_of, with_bucket, with_value}
pub use Rattle.std.proofs.Math.Nat.{add-mul, div-lt_iff_lt-mul, mul-le-mul_left, mul-le-mul_right}
pub use Rattle.std.proofs.lemmas.Bool.{and_parts, cases_Bool, cases_lt, eq-eqb, le-ltb, lt-ltb, ltb-false, ltb-true, ne_eqb}
pub use Rattle.std.proofs.lemmas.Grind.{common_steps}
pub use Rattle.std.proofs.lemmas.List.{append-nil, length-append, length-map, length-replicate, length_push, map-append}
pub use Rattle.std.proofs.lemmas.List.Elements.{Contains-append_left, Contains-append_right}
pub use Rattle.std.proofs.lemmas.List.Sums.{sum_by-append, sum_by-cons}
pub use Rattle.std.specs.List.{AllByRecursion, Contains, range_with_len}
pub use Rattle.std.specs.declared.cmp.Ordering.TheVariants.{Less}
