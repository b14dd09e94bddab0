-- Paths in hexadecimal, each with its text if it can be read: docs/COMMANDS.md, "Recovery".
use Rattle.std.specs.Prelude.{◌==◌, ◌&&◌, ◌∷◌, [], ◌++◌, Bool, List, codes, if◌then◌else◌, length, not, ℕ}
use Rattle.std.specs.List.{join_with_byte, list_all}
use Rattle.bolt_tree.specs.Paths.{Path}
use Rattle.bolt_text.specs.{Forms.is_printable, ListLines.hex_path}

-- a part can be read if it has bytes, and all of them are printable; a path, if it has parts, and each can be read
abbrev pub is_readable_part : List ℕ → Bool
is_readable_part part = not (length part == 0) && is_printable part

abbrev pub is_readable_path : Path → Bool
is_readable_path path = not (length path == 0) && list_all is_readable_part path

-- the parts of a path that can be read, joined by slashes, in brackets
abbrev pub text_after : Path → List ℕ
text_after path = if is_readable_path path then codes " (" ++ (join_with_byte 0x2F path ++ codes ")") else []

-- a path in hexadecimal, and its text
unfoldable pub named_path : Path → List ℕ
named_path path = hex_path path ++ text_after path

-- a key is a path of one part
abbrev pub named_key : List ℕ → List ℕ
named_key key = named_path (key ∷ [])
