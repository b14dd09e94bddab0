-- The text of pieces.
use Rattle.std.specs.Prelude.{ℕ, List, ◌∷◌, ◌++◌, decimal, false, flat_map, map}
use Rattle.std.specs.{Fmt.digits, List.join_with_byte, Borrow.Bor}
use Rattle.hex.specs.Hex.{encode_lower}
use Rattle.json.specs.Print.{quoted}
use Rattle.bolt_tree.specs.Paths.{Path, path_of}
use Rattle.bolt_text.specs.{Lines.column, Lines.figure_line, NamedPaths.named_key, NamedPaths.named_path, declared.pieces.Piece.Piece}
use Rattle.bolt_text.specs.declared.pieces.Piece.TheVariants.{Bytes, Number, HexNumber, Hex, HexString, JoinedPath, NamedPath, NamedKey, Field}
use Rattle.bolt_text.specs.declared.pieces.Piece.TheVariants.{Figure, Column, NumberColumn}
use Rattle.bolt_text.specs.declared.path_pieces.PathForm.{PathForm}
use Rattle.bolt_text.specs.declared.path_pieces.PathForm.TheVariants.{Slashes, Strings, Plain}

-- bytes in hexadecimal as a JSON string
abbrev pub hex_string : List ℕ → List ℕ
hex_string bytes = quoted (encode_lower bytes)

-- the parts of a path in hexadecimal, joined by slashes; in hexadecimal as JSON strings, joined by commas; and as they are, joined by slashes
abbrev pub separator : PathForm → ℕ
separator Slashes = 0x2F
separator Strings = 0x2C
separator Plain = 0x2F

abbrev pub part_text : PathForm → List ℕ → List ℕ
part_text Slashes part = encode_lower part
part_text Strings part = hex_string part
part_text Plain part = part

abbrev pub path_text : PathForm → Path → List ℕ
path_text form path = join_with_byte (separator form) (map (part_text form) path)

-- each part after a separator
abbrev pub later_parts : PathForm → List (Bor (List ℕ)) → List ℕ
later_parts form parts = flat_map (λ (part : Bor (List ℕ)). separator form ∷ part_text form part.now) parts

abbrev pub piece_text : Piece → List ℕ
piece_text (Bytes bytes) = bytes.now
piece_text (Number n) = decimal n
piece_text (HexNumber n) = digits 16 false n
piece_text (Hex bytes) = encode_lower bytes.now
piece_text (HexString bytes) = hex_string bytes.now
piece_text (JoinedPath parts form) = path_text form (path_of parts.now)
piece_text (NamedPath parts) = named_path (path_of parts.now)
piece_text (NamedKey key) = named_key key.now
piece_text (Field name n) = name.now ++ decimal n
piece_text (Figure name n) = figure_line name.now n
piece_text (Column text width) = column width text.now
piece_text (NumberColumn n width) = column width (decimal n)

-- the texts of pieces, one after another
abbrev pub pieces_text : List Piece → List ℕ
pieces_text pieces = flat_map piece_text pieces
