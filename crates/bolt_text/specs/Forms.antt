-- The forms of a key or a value: docs/COMMANDS.md, "What is printed".
use Rattle.std.specs.Prelude.{ℕ, Bool, true, false, ◌&&◌, ◌==◌, ◌++◌, nat_le, not, List, codes, if◌then◌else◌}
use Rattle.std.specs.{Char.is_control, List.list_all, List.starts_with, Str.chars, Str.is_utf8}
use Rattle.hex.specs.Hex.{encode_lower}
use Rattle.json.specs.{Json.Json, Json.member, Json.no_members, Json.object, Json.string, Print.print, Tree.json_tokens}
use Rattle.bolt_text.specs.Lines.{line}
use Rattle.bolt_text.specs.declared.forms.Form as form

-- all bytes are printable ASCII characters
abbrev pub is_printable : List ℕ → Bool
is_printable bytes = list_all (λ byte. nat_le 0x20 byte && nat_le byte 0x7E) bytes

-- UTF-8 without control characters, which are U+0000 to U+001F and U+007F to U+009F
abbrev pub is_text : List ℕ → Bool
is_text bytes = is_utf8 bytes && list_all (λ c. not (is_control c)) (chars bytes)

-- a JSON string if it is UTF-8, otherwise an object with its digits in hexadecimal
abbrev pub item_json : List ℕ → Json
item_json bytes = if is_utf8 bytes then string bytes else object (member (codes "hex") (string (encode_lower bytes)) no_members)

-- a JSON string of its digits in hexadecimal
abbrev pub digits_json : List ℕ → Json
digits_json bytes = string (encode_lower bytes)

-- a JSON value without spaces
abbrev pub json_text : Json → List ℕ
json_text value = print (json_tokens value)

-- whether an item begins with the mark of hexadecimal
abbrev pub is_marked : List ℕ → Bool
is_marked bytes = starts_with (λ a b. a == b) bytes (codes "0x")

-- an item as it is if it is printable and has no mark, and otherwise the mark and its digits in hexadecimal
abbrev pub mixed_text : List ℕ → List ℕ
mixed_text bytes = if is_printable bytes && not (is_marked bytes) then bytes else codes "0x" ++ encode_lower bytes

-- the forms that are JSON, and an item as JSON in each of them
abbrev pub is_json : form.Form → Bool
is_json form.TheVariants.Json = true
is_json form.TheVariants.JsonHex = true
is_json _ = false

abbrev pub json_in : form.Form → List ℕ → Json
json_in form.TheVariants.JsonHex bytes = digits_json bytes
json_in _ bytes = item_json bytes

-- As it is if it is printable, otherwise in hexadecimal; in hexadecimal; as it is; as it is if it is a text, otherwise in hexadecimal; mixed; and as
-- JSON.
abbrev pub item_text : form.Form → List ℕ → List ℕ
item_text form.TheVariants.Printable bytes = if is_printable bytes then bytes else encode_lower bytes
item_text form.TheVariants.Hex bytes = encode_lower bytes
item_text form.TheVariants.Bytes bytes = bytes
item_text form.TheVariants.Text bytes = if is_text bytes then bytes else encode_lower bytes
item_text form.TheVariants.Mixed bytes = mixed_text bytes
item_text form.TheVariants.Json bytes = json_text (item_json bytes)
item_text form.TheVariants.JsonHex bytes = json_text (digits_json bytes)

-- an item in a form is a line
abbrev pub value_text : form.Form → List ℕ → List ℕ
value_text form bytes = line (item_text form bytes)
