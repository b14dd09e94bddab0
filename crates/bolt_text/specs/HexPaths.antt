-- Words in hexadecimal, two digits of either case for each byte: docs/COMMANDS.md, "Arguments".
use Rattle.std.specs.Prelude.{◌==◌, ℕ, List, [], ◌∷◌, Option, Some, None, length, option_and_then, option_map, if◌then◌else◌}
use Rattle.std.specs.{List.slice_split, Result.result_ok}
use Rattle.hex.specs.Hex.{decode_of}
use Rattle.bolt_check.specs.Keys.{Key}
use Rattle.bolt_tree.specs.Paths.{Path}
use Rattle.bolt_text.specs.Lines.{Text}

abbrev pub hex_bytes_in : Text → Option (List ℕ)
hex_bytes_in word = result_ok (decode_of word)

-- a part of a path, of one byte or more
abbrev pub part_in : Text → Option Key
part_in word = if length word == 0 then None else hex_bytes_in word

abbrev pub parts_in : List Text → Option Path
parts_in [] = Some []
parts_in (word ∷ words) = option_and_then (λ part. option_map (λ parts. part ∷ parts) (parts_in words)) (part_in word)

-- a path: its parts, with a slash, which is 47, between two
unfoldable pub hex_path_in : Text → Option Path
hex_path_in word = parts_in (slice_split (λ byte. byte == 47) word)
