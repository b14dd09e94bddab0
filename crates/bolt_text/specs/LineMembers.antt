-- The member that a line tells, and the listing that a text tells: docs/LISTING.md, "A listing as text".
use Rattle.std.specs.Prelude.{◌==◌, List, [], ◌∷◌, Option, None, codes, option_and_then, option_map, if◌then◌else◌}
use Rattle.std.specs.{List.filter_map, List.slice_split, Str.bytes_eq}
use Rattle.bolt_tree.specs.{Entries.Bucket, Entries.Item, Entries.Value, Listing.Member}
use Rattle.bolt_text.specs.{HexPaths.hex_bytes_in, HexPaths.hex_path_in, Lines.Text, Lines.lines_of, Numbers.number_in}

-- a value in hexadecimal after `=`, or the sequence of a bucket after `bucket`
abbrev pub item_in : (mark word : Text) → Option Item
item_in mark word =
    if bytes_eq mark (codes "=") then option_map Value (hex_bytes_in word)
    else if bytes_eq mark (codes "bucket") then option_map Bucket (number_in word)
    else None

-- a path, a mark and what the mark is of
abbrev pub member_in : List Text → Option Member
member_in [] = None
member_in (path ∷ []) = None
member_in (path ∷ mark ∷ []) = None
member_in (path ∷ mark ∷ word ∷ []) = option_and_then (λ path. option_map (λ item. (path, item)) (item_in mark word)) (hex_path_in path)
member_in (path ∷ mark ∷ word ∷ more ∷ words) = None

-- three words, with one space, which is 32, between two
unfoldable pub line_member : Text → Option Member
line_member line = member_in (slice_split (λ byte. byte == 32) line)

abbrev pub members_of_lines : List Text → List Member
members_of_lines lines = filter_map line_member lines

-- what the lines of a text tell
abbrev pub text_members : Text → List Member
text_members text = members_of_lines (lines_of text)
