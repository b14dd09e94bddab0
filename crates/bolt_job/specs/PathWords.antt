-- How a path is written on a command line: a word for each part, or all parts in hexadecimal in one word: docs/COMMANDS.md, "Arguments".
use Rattle.std.specs.Prelude.{List, [], ◌∷◌, Option, Some, None, Result, Ok, Err, codes, if◌then◌else◌}
use Rattle.std.specs.Str.{bytes_eq}
use Rattle.bolt_tree.specs.Paths.{Key, Path}
use Rattle.bolt_text.specs.{HexPaths.hex_path_in, PartWords.part_by, declared.part_words.Parts.Parts, Lines.Text}
use Rattle.bolt_text.specs.declared.part_words.Parts.TheVariants as parts

-- what comes next of what was read, or what is wrong with it
infixl 10 ◌>>=◌
abbrev pub ◌>>=◌ : {A B : Type 0} → Result A Text → (A → Result B Text) → Result B Text
Ok a >>= next = next a
Err why >>= next = Err why

-- how the words of a path are written, by the value of an option; without one they are text
abbrev pub parts_of : Text → Result Parts Text
parts_of word =
    if bytes_eq word (codes "text") then Ok parts.Text
    else if bytes_eq word (codes "hex") then Ok parts.Hex
    else if bytes_eq word (codes "mixed") then Ok parts.Mixed
    else Err (codes "bad parts: use text, hex or mixed")

abbrev pub parts_by : Option Text → Result Parts Text
parts_by (Some word) = parts_of word
parts_by None = Ok parts.Text

abbrev pub or_bad_hex : {A : Type 0} → Option A → Result A Text
or_bad_hex (Some found) = Ok found
or_bad_hex None = Err (codes "bad hex")

-- a part of a path by its word
abbrev pub part_of : Parts → Text → Result Key Text
part_of how word = or_bad_hex (part_by how word)

-- the bytes that keys are to begin with, written as a part is; without a word each key does
abbrev pub prefix_of : Parts → Option Text → Result Key Text
prefix_of how (Some word) = part_of how word
prefix_of how None = Ok []

-- each of the words is a part
abbrev pub each_part : (Text → Result Key Text) → List Text → Result Path Text
each_part read [] = Ok []
each_part read (word ∷ words) = read word >>= λ part. each_part read words >>= λ path. Ok (part ∷ path)

-- a path in hexadecimal
abbrev pub hex_path_of : Text → Result Path Text
hex_path_of word = or_bad_hex (hex_path_in word)

-- the path at which the rest of a listing begins; without one it is the whole
abbrev pub hex_path_by : Option Text → Result Path Text
hex_path_by (Some word) = hex_path_of word
hex_path_by None = Ok []
