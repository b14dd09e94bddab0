-- Words that stand for the parts of a path: docs/COMMANDS.md, "Arguments".
use Rattle.std.specs.Prelude.{Option, Some, codes, drop, take, if◌then◌else◌}
use Rattle.std.specs.Str.{bytes_eq}
use Rattle.bolt_check.specs.Keys.{Key}
use Rattle.bolt_text.specs.{HexPaths.hex_bytes_in, Lines.Text, declared.part_words.Parts.Parts}
use Rattle.bolt_text.specs.declared.part_words.Parts.TheVariants as parts

-- what follows `0x` is in hexadecimal, and any other word is text
abbrev pub mixed_in : Text → Option Key
mixed_in word = if bytes_eq (take 2 word) (codes "0x") then hex_bytes_in (drop 2 word) else Some word

-- a part by its word
abbrev pub part_by : Parts → Text → Option Key
part_by parts.Text word = Some word
part_by parts.Hex word = hex_bytes_in word
part_by parts.Mixed word = mixed_in word
