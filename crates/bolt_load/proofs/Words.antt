-- The words that the proofs of this crate cite, passed on from the modules that define them.
pub use Rattle.bolt_lemmas.proofs.Exports.{contains_from_has, has_from_contains, has_split, less_of}
pub use Rattle.bolt_lemmas.specs.Lists.{Has}
pub use Rattle.bolt_lemmas.specs.Order.{Rises}
pub use Rattle.bolt_check.specs.Keys.{Key}
pub use Rattle.bolt_layout.specs.Storable.{IsFitItem}
pub use Rattle.bolt_load.specs.LineFaults.{IsFaultOfLines, IsFirstFault, IsListingText, IsLoadFault, RightAfter, is_above_last, is_long_item}
pub use Rattle.bolt_load.specs.LineFaults.{is_long_key, length_fault, line_fault, place_fault, shape_fault}
pub use Rattle.bolt_load.specs.Private.Decoding.{AddsDecoded, AreDecoded, BeginsWith, GivesLine, StopsAt, member_bytes, path_bytes}
pub use Rattle.bolt_load.specs.Private.OpenPaths.{fault_after, order_fault, is_open}
unfoldable pub use Rattle.bolt_load.specs.ShownMembers.{members_left, members_path}
pub use Rattle.bolt_load.specs.declared.load_fault.LineFault.{LineFault}
pub use Rattle.bolt_load.specs.declared.load_fault.LineFault.TheVariants.{KeyTooLong, NotALine, ValueTooLong}
pub use Rattle.bolt_text.specs.Cuts.{IsCutAt, IsFirstLine, IsWithout}
pub use Rattle.bolt_text.specs.HexPaths.{hex_bytes_in, part_in, parts_in}
unfoldable pub use Rattle.bolt_text.specs.HexPaths.{hex_path_in}
pub use Rattle.bolt_text.specs.JsonReadings.{ArePartsBytes, IsMemberOfBytes}
pub use Rattle.bolt_text.specs.LineMembers.{item_in, member_in, members_of_lines, text_members}
unfoldable pub use Rattle.bolt_text.specs.LineMembers.{line_member}
pub use Rattle.bolt_text.specs.LineWords.{word_item}
pub use Rattle.bolt_text.specs.Lines.{Text, line}
unfoldable pub use Rattle.bolt_text.specs.Lines.{lines_of}
pub use Rattle.bolt_text.specs.ListLines.{hex_path, listing_text}
unfoldable pub use Rattle.bolt_text.specs.ListLines.{item_end, member_line, value_end}
pub use Rattle.bolt_text.specs.Numbers.{number_in}
pub use Rattle.bolt_tree.proofs.Exports.{begins_of, path_total}
pub use Rattle.bolt_tree.specs.Entries.{Bucket, Item, Value, item_bytes}
pub use Rattle.bolt_tree.specs.Listing.{Member, member_cmp}
pub use Rattle.bolt_tree.specs.ListingParts.{begins_with, has_bucket, is_bucket}
pub use Rattle.bolt_tree.specs.Paths.{Path, path_above, path_cmp, path_of}
pub use Rattle.bolt_tree.specs.ShownEntries.{item_view}
pub use Rattle.bolt_tree.specs.Tree.{Tree, end, listing_below, listing_of, with_bucket, with_value}
pub use Rattle.hex.specs.Hex.{digit_or_error, encode_lower, hex_digit_value, lower_digits, pair_value, value_at, ◌>>=◌}
unfoldable pub use Rattle.hex.specs.Hex.{decode_pairs, encode_with}
pub use Rattle.hex.specs.declared.error.FromHexError.{FromHexError}
pub use Rattle.std.proofs.Math.Seq.{drop-append_seam, take-append_seam}
pub use Rattle.std.proofs.lemmas.Bool.{and_parts, cases_Bool, cases_lt}
pub use Rattle.std.proofs.lemmas.Bool.Decides.{nat_tests}
pub use Rattle.std.proofs.lemmas.Fmt.{digits_decimal}
pub use Rattle.std.proofs.lemmas.List.{length-map, map-append, take-append-drop}
pub use Rattle.std.proofs.lemmas.List.Elements.{All-append, filter_map-append}
pub use Rattle.std.proofs.lemmas.List.Splits.{slice_split_at, slice_split_none}
pub use Rattle.std.proofs.lemmas.Slice.Eq.{bytes_eq-Decides}
pub use Rattle.std.specs.Char.{is_ascii_digit}
pub use Rattle.std.specs.Fmt.{decimal}
pub use Rattle.std.specs.List.{All, Contains, list_any, slice_split}
pub use Rattle.std.specs.Option.{option_map_or, option_or}
pub use Rattle.std.specs.Ordering.{is_lt}
pub use Rattle.std.specs.Prelude.{IfSome, IsSome, flat_map, if◌then◌else◌, is_some, option_and_then, option_map}
pub use Rattle.std.specs.Result.{result_ok}
pub use Rattle.std.specs.Str.{all_ascii_digits, bytes_eq}
pub use Rattle.std.specs.declared.cmp.Ordering.TheVariants.{Less}
