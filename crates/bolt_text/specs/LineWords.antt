-- The words of a line.
use Rattle.std.specs.Prelude.{◌==◌, List, [], ◌∷◌, Option, None, Some, codes, if◌then◌else◌, option_and_then, option_map}
use Rattle.std.specs.{List.slice_split, Str.bytes_eq}
use Rattle.bolt_tree.specs.{Entries.Bucket, Entries.Item, Entries.Value, Listing.Member}
use Rattle.bolt_text.specs.{HexPaths.hex_bytes_in, HexPaths.hex_path_in, Lines.Text, Numbers.number_in, declared.line_words.ItemWord.ItemWord}
use Rattle.bolt_text.specs.{declared.line_words.ItemWord.TheVariants.Digits, declared.line_words.ItemWord.TheVariants.Sequence}
use Rattle.bolt_text.specs.{declared.line_words.LineWords.LineWords}

abbrev pub word_item : ItemWord → Option Item
word_item (Digits digits) = option_map Value (hex_bytes_in digits.now)
word_item (Sequence number) = Some (Bucket number)

-- the member that the words tell
abbrev pub words_member : LineWords → Option Member
words_member words = option_and_then (λ path. option_map (λ item. (path, item)) (word_item words.item)) (hex_path_in words.path.now)

-- the last word of a line: the digits of a value, not decoded, after `=`, or the sequence of a bucket after `bucket`
abbrev pub last_word : (mark word : Text) → Option Item
last_word mark word =
    if bytes_eq mark (codes "=") then Some (Value word)
    else if bytes_eq mark (codes "bucket") then option_map Bucket (number_in word)
    else None

-- three words: the path, not decoded, and what is there
abbrev pub three_words : List Text → Option (Text × Item)
three_words [] = None
three_words (path ∷ []) = None
three_words (path ∷ mark ∷ []) = None
three_words (path ∷ mark ∷ word ∷ []) = option_map (λ item. (path, item)) (last_word mark word)
three_words (path ∷ mark ∷ word ∷ more ∷ words) = None

-- the words of a line, with one space, which is 32, between two
unfoldable pub line_words : Text → Option (Text × Item)
line_words line = three_words (slice_split (λ byte. byte == 32) line)

-- what these words show
abbrev pub shown_word : ItemWord → Item
shown_word (Digits digits) = Value digits.now
shown_word (Sequence number) = Bucket number

abbrev pub shown_words : LineWords → Text × Item
shown_words words = (words.path.now, shown_word words.item)
