-- The words that the proofs of this crate cite, passed on from the modules that define them.
pub use Rattle.bolt_format.proofs.Exports.{flat_map-take_more, WroteFront, front_more, front_whole, Wrote-element, Wrote-element_return}
pub use Rattle.bolt_format.proofs.Exports.{Wrote-elements, Wrote-return, Wrote-same, Wrote-then}
pub use Rattle.bolt_format.specs.Endings.{broken, ending, whole}
pub use Rattle.bolt_format.specs.Wrote.{Wrote}
pub use Rattle.bolt_format.specs.declared.sink.Sink.{Ghosts}
pub use Rattle.bolt_format.specs.declared.sink.SinkFault.{SinkFault}
pub use Rattle.bolt_text.specs.Cuts.{IsCutAt, IsFirstLine, IsWithout}
pub use Rattle.bolt_text.specs.Forms.{digits_json, item_json, json_text}
pub use Rattle.bolt_text.specs.Gathers.{Gathers}
pub use Rattle.bolt_text.specs.HexPaths.{hex_bytes_in}
unfoldable pub use Rattle.bolt_text.specs.HexPaths.{hex_path_in}
pub use Rattle.bolt_text.specs.JsonLines.{end_json, parts_json}
unfoldable pub use Rattle.bolt_text.specs.JsonLines.{json_line}
pub use Rattle.bolt_text.specs.LineMembers.{item_in, member_in}
unfoldable pub use Rattle.bolt_text.specs.LineMembers.{line_member}
pub use Rattle.bolt_text.specs.LineWords.{word_item}
pub use Rattle.bolt_text.specs.Lines.{Text, line}
unfoldable pub use Rattle.bolt_text.specs.Lines.{lines_of}
pub use Rattle.bolt_text.specs.Numbers.{number_in}
pub use Rattle.bolt_text.specs.Pieces.{later_parts, part_text, path_text, pieces_text, separator}
pub use Rattle.bolt_text.specs.declared.report_fault.ReportFault.{ReportFault}
pub use Rattle.bolt_tree.specs.Entries.{Item, Value}
pub use Rattle.bolt_tree.specs.Listing.{Member}
pub use Rattle.bolt_tree.specs.ListingParts.{begins_with}
pub use Rattle.bolt_tree.specs.Paths.{Path, path_of}
pub use Rattle.bolt_tree.specs.ShownEntries.{item_view}
pub use Rattle.hex.specs.Hex.{IsBytes, digit_or_error, encode_lower, hex_digit_value, lower_digits, pair_value, value_at, ◌>>=◌}
unfoldable pub use Rattle.hex.specs.Hex.{decode_pairs}
pub use Rattle.hex.specs.declared.error.FromHexError.{FromHexError}
unfoldable pub use Rattle.json.specs.Print.{escape_byte, print_from}
pub use Rattle.json.specs.Token.{Token, end_object}
pub use Rattle.json.specs.Tree.{items_tokens, json_tokens}
pub use Rattle.std.proofs.lemmas.Bool.{and_parts, cases_Bool}
pub use Rattle.std.proofs.lemmas.Bool.Decides.{nat_tests}
pub use Rattle.std.proofs.lemmas.Fmt.{digits_decimal}
pub use Rattle.std.proofs.lemmas.List.{length-map}
pub use Rattle.std.proofs.lemmas.List.Splits.{slice_split_at, slice_split_none}
pub use Rattle.std.proofs.lemmas.List.Sums.{AllPass-from_list_all}
pub use Rattle.std.proofs.lemmas.Option.{slice_get-get_or}
pub use Rattle.std.proofs.lemmas.Slice.Eq.{bytes_eq-Decides}
pub use Rattle.std.proofs.lemmas.Str.{is_utf8-from_IsUtf8}
pub use Rattle.std.specs.Char.{is_ascii_digit}
pub use Rattle.std.specs.Cmp.Lexicographic.{pointwise}
pub use Rattle.std.specs.List.{list_all, range_with_len, slice_split, starts_with}
pub use Rattle.std.specs.Ordering.{is_lt}
pub use Rattle.std.specs.Prelude.{IsErr, decimal, if◌then◌else◌, is_some, option_and_then, option_map}
pub use Rattle.std.specs.Result.{result_ok}
pub use Rattle.std.specs.Str.{all_ascii_digits, bytes_eq, is_utf8}
