-- The words that the proofs of this crate cite, passed on from the modules that define them.
pub use Rattle.bolt_lemmas.proofs.Exports.{contains_head, contains_tail}
pub use Rattle.bolt_lemmas.specs.Order.{Rises}
pub use Rattle.bolt_check.specs.CheckedFiles.{bytes_of, meta_of}
pub use Rattle.bolt_check.specs.Keys.{Key, key_lt}
pub use Rattle.bolt_check.specs.RoledFiles.{roles_checked}
pub use Rattle.bolt_check.specs.Sound.{HasSoundTrees}
pub use Rattle.bolt_check.specs.declared.checked.Checked.{Checked}
pub use Rattle.bolt_format.proofs.Exports.{drop_next, WroteFront, front_more, front_none, front_whole, Wrote-element, Wrote-element_return}
pub use Rattle.bolt_format.proofs.Exports.{Wrote-elements, Wrote-none, Wrote-return, Wrote-same, Wrote-then, Wrote-then_return}
pub use Rattle.bolt_format.specs.ElementPlaces.{branch_view, leaf_view}
pub use Rattle.bolt_format.specs.Elements.{LeafElement}
unfoldable pub use Rattle.bolt_format.specs.Pages.{page_at}
unfoldable pub use Rattle.bolt_format.specs.ShownGoodPages.{shown}
pub use Rattle.bolt_format.specs.ShownIds.{shown_ids}
pub use Rattle.bolt_format.specs.declared.meta.Meta.{Meta}
pub use Rattle.bolt_recover.specs.{PageGaps.page_gap_view, ShownLosses.loss_view}
pub use Rattle.bolt_report.specs.BboltLines.{file_finding_text}
pub use Rattle.bolt_report.specs.FaultWords.{finding_text}
pub use Rattle.bolt_report.specs.FoundLines.{bucket_count, found_view}
unfoldable pub use Rattle.bolt_report.specs.FoundLines.{found_line}
unfoldable pub use Rattle.bolt_report.specs.GapLines.{gap_line}
pub use Rattle.bolt_report.specs.KeyLines.{bucket_name, keys_text}
pub use Rattle.bolt_report.specs.KeyPrefixes.{has_key_prefix, with_prefix}
unfoldable pub use Rattle.bolt_report.specs.LossLines.{loss_text}
pub use Rattle.bolt_report.specs.PageLines.{branch_line, id_line, leaf_line}
pub use Rattle.bolt_report.specs.PageMaps.{line_at, page_mark}
unfoldable pub use Rattle.bolt_report.specs.PageMaps.{map_line}
pub use Rattle.bolt_report.specs.PageTables.{ForRoles, past_line}
pub use Rattle.bolt_report.specs.SizeLines.{AreSized, Sized, bytes_allocated, bytes_used, size_json, sizes_text}
pub use Rattle.bolt_check.specs.Counts.{saturated}
pub use Rattle.bolt_stats.specs.StatsOf.{IsStatsOf}
pub use Rattle.bolt_stats.specs.declared.figures.Stats.{Stats}
pub use Rattle.bolt_text.specs.Forms.{digits_json, item_json, json_text, value_text}
pub use Rattle.bolt_text.specs.JsonLines.{end_json, parts_json}
pub use Rattle.bolt_text.specs.Lines.{line}
pub use Rattle.bolt_text.specs.ListForms.{lines_form, list_line, listing_lines}
pub use Rattle.bolt_text.specs.declared.report_fault.ReportFault.{ReportFault}
pub use Rattle.bolt_text.specs.declared.forms.Form.{Form}
pub use Rattle.bolt_text.specs.declared.forms.ListForm.{ListForm}
pub use Rattle.bolt_tree.proofs.Exports.{fewer_left, next_shows, next_stands, the_entries}
pub use Rattle.bolt_tree.specs.Buckets.{bucket_checked, bucket_start}
pub use Rattle.bolt_tree.specs.Cursors.{cursor_bucket, cursor_opened, cursor_place}
unfoldable pub use Rattle.bolt_tree.specs.Cursors.{cursor_checked, cursor_start}
pub use Rattle.bolt_tree.specs.Entries.{EntryView, IsStart, Root_page, Start, Value, entry_cmp, entry_view, start_of}
pub use Rattle.bolt_tree.specs.EntriesLeft.{ForEntries, entries_left}
pub use Rattle.bolt_tree.specs.Listing.{Member, member_cmp, rest_from}
pub use Rattle.bolt_tree.specs.ListingParts.{begins_with, is_bucket_at}
pub use Rattle.bolt_tree.specs.Paths.{Path, path_of}
pub use Rattle.bolt_tree.specs.Places.{On, Past, Place, least_from}
pub use Rattle.bolt_tree.specs.ShownEntries.{item_view, shown_entry}
pub use Rattle.bolt_tree.specs.Walks.{left_of, walk_checked}
pub use Rattle.hex.specs.Hex.{IsBytes}
unfoldable pub use Rattle.json.specs.Print.{escape_byte, print_from}
pub use Rattle.json.specs.Token.{end_object}
pub use Rattle.json.specs.Tree.{json_tokens}
pub use Rattle.std.proofs.Math.Logic.{∥∥₁_elim}
pub use Rattle.std.proofs.Props.{props}
pub use Rattle.std.proofs.lemmas.Bool.{and_parts, cases_Bool, cond-true, false_from_ne_true}
pub use Rattle.std.proofs.lemmas.List.{drop_all, length-map}
pub use Rattle.std.proofs.lemmas.List.FromFn.{length-range_with_len}
pub use Rattle.std.proofs.lemmas.List.Sums.{sum_by-cons}
pub use Rattle.std.proofs.lemmas.Option.{same_Some, slice_get-get_or}
pub use Rattle.std.specs.Cmp.Lexicographic.{pointwise}
pub use Rattle.std.specs.Int.{div_ceil}
pub use Rattle.std.specs.List.{AllByRecursion, Contains, list_any, range_with_len, starts_with, take_while}
pub use Rattle.std.specs.Prelude.{decimal}
pub use Rattle.std.specs.Str.{bytes_eq}
