-- Names of files, as standard error has them: docs/COMMANDS.md, "Errors".
use Rattle.std.specs.Prelude.{◌==◌, ◌&&◌, ℕ, List, [], ◌∷◌, Bool, false, true, flat_map, not, if◌then◌else◌}
use Rattle.std.specs.{Char.encode_utf8, Char.is_control, Char.Escape.escape_default, Str.chars}

-- A control character is escaped, and any other is as it is. A line feed stays if the text has lines.
abbrev pub shown_char : (has_lines : Bool) → ℕ → List ℕ
shown_char has_lines c = if is_control c && not (has_lines && (c == 10)) then escape_default c else c ∷ []

abbrev pub shown_text : (has_lines : Bool) → List ℕ → List ℕ
shown_text has_lines text = flat_map encode_utf8 (flat_map (shown_char has_lines) (chars text))

-- a name in the line of a fault
abbrev pub shown_name : List ℕ → List ℕ
shown_name name = shown_text false name

-- a text of several lines
abbrev pub shown_lines : List ℕ → List ℕ
shown_lines text = shown_text true text
