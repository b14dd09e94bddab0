-- A text as `list` writes it: docs/LISTING.md, "A listing as text".
use Rattle.std.specs.Prelude.{◌==◌, List, [], ◌∷◌, ◌++◌, codes, decimal, flat_map, if◌then◌else◌}
use Rattle.std.specs.{List.join_with_byte, List.slice_split, Str.bytes_eq, Str.str_to_ascii_lowercase}
use Rattle.bolt_text.specs.{Lines.Text, Lines.lines_of, Numbers.decimal_value}

-- a number without leading zeros, or digits of a value in lower case
abbrev pub plain_word : (mark word : Text) → Text
plain_word mark word = if bytes_eq mark (codes "bucket") then decimal (decimal_value word) else str_to_ascii_lowercase word

abbrev pub plain_words : List Text → List Text
plain_words (path ∷ mark ∷ word ∷ []) = str_to_ascii_lowercase path ∷ mark ∷ plain_word mark word ∷ []
plain_words words = words

-- a line in plain form, with a line feed at its end, which is 10
unfoldable pub plain_line : Text → Text
plain_line line = join_with_byte 32 (plain_words (slice_split (λ byte. byte == 32) line)) ++ 10 ∷ []

abbrev pub plain_text : Text → Text
plain_text text = flat_map plain_line (lines_of text)
