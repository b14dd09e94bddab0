-- The text of a listing: docs/COMMANDS.md, "list".
-- A line for each member: its path, and then its value or its sequence.
use Rattle.std.specs.Prelude.{ℕ, List, ◌++◌, codes, decimal, flat_map, map}
use Rattle.std.specs.List.{join_with_byte}
use Rattle.hex.specs.Hex.{encode_lower}
use Rattle.bolt_tree.specs.{Entries.Bucket, Entries.Item, Entries.Value, Listing.Member, Paths.Path}
use Rattle.bolt_text.specs.Lines.{line}

-- the parts of a path in hexadecimal, joined by slashes
abbrev pub hex_path : Path → List ℕ
hex_path path = join_with_byte 0x2F (map encode_lower path)

-- a value in hexadecimal; and it or the sequence of a bucket
unfoldable pub value_end : List ℕ → List ℕ
value_end value = codes " = " ++ line (encode_lower value)

unfoldable pub item_end : Item → List ℕ
item_end (Value value) = value_end value
item_end (Bucket sequence) = line (codes " bucket " ++ decimal sequence)

unfoldable pub member_line : Member → List ℕ
member_line member = hex_path member.0 ++ item_end member.1

abbrev pub listing_text : List Member → List ℕ
listing_text listing = flat_map member_line listing
