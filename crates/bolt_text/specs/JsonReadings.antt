-- What a reader of a JSON line finds in it: docs/COMMANDS.md, "What is printed".
use Rattle.std.specs.Prelude.{ℕ, ◌<◌, ◌^◌, List, [], ◌∷◌, Option, Some, None, ⊤, codes, option_and_then, option_map, if◌then◌else◌}
use Rattle.std.specs.{Str.bytes_eq, Str.Parse.digits_value}
use Rattle.hex.specs.Hex.{IsBytes}
use Rattle.json.specs.Json.{Items, Json, Members, array, item, member, no_items, no_members, number, object, string}
use Rattle.bolt_tree.specs.{Entries.Bucket, Entries.Item, Entries.Value, Listing.Member, Paths.Path}
use Rattle.bolt_text.specs.HexPaths.{hex_bytes_in}

abbrev pub string_of : Json → Option (List ℕ)
string_of (string s) = Some s
string_of _ = None

abbrev pub object_members : Json → Option Members
object_members (object ms) = Some ms
object_members _ = None

-- the member of an object that has a name
abbrev pub named : List ℕ → Members → Option Json
named name no_members = None
named name (member k j ms) = if bytes_eq k name then Some j else named name ms

-- a key or a value: a string of hexadecimal digits;
abbrev pub digits_of : Json → Option (List ℕ)
digits_of json = option_and_then hex_bytes_in (string_of json)

-- a key or a value that is a string, or an object whose `hex` has hexadecimal digits
abbrev pub item_in_json : Json → Option (List ℕ)
item_in_json (string s) = Some s
item_in_json (object ms) = option_and_then hex_bytes_in (option_and_then string_of (named (codes "hex") ms))
item_in_json _ = None

abbrev pub number_of : Json → Option ℕ
number_of (number s) = Some (digits_value 10 s)
number_of _ = None

-- the number under a name
abbrev pub number_under : List ℕ → Members → Option ℕ
number_under name ms = option_and_then number_of (named name ms)

-- by what reads a key or a value
module _ (read : Json → Option (List ℕ)) where
  abbrev pub parts_of : Items → Option Path
  parts_of no_items = Some []
  parts_of (item j js) = option_and_then (λ part. option_map (λ path. part ∷ path) (parts_of js)) (read j)

  abbrev pub path_of_json : Json → Option Path
  path_of_json (array js) = parts_of js
  path_of_json _ = None

  -- `value` is a value; without one, `bucket` is the sequence of a bucket
  abbrev pub end_by : (value bucket : Option Json) → Option Item
  end_by (Some value) bucket = option_map Value (read value)
  end_by None bucket = option_map Bucket (option_and_then number_of bucket)

  abbrev pub end_of : Members → Option Item
  end_of ms = end_by (named (codes "value") ms) (named (codes "bucket") ms)

  -- `path` is the path
  abbrev pub member_of_members : Members → Option Member
  member_of_members ms = option_and_then (λ path. option_map (λ last. (path, last)) (end_of ms)) (option_and_then path_of_json (named (codes "path") ms))

  abbrev pub member_of : Json → Option Member
  member_of json = option_and_then member_of_members (object_members json)

-- parts and values are bytes, and a sequence has 64 bits
abbrev pub ArePartsBytes : Path → Type 0
ArePartsBytes [] = ⊤
ArePartsBytes (part ∷ path) = IsBytes part × ArePartsBytes path

abbrev pub IsItemOfBytes : Item → Type 0
IsItemOfBytes (Value value) = IsBytes value
IsItemOfBytes (Bucket sequence) = sequence < 2 ^ 64

abbrev pub IsMemberOfBytes : Member → Type 0
IsMemberOfBytes m = ArePartsBytes m.0 × IsItemOfBytes m.1
