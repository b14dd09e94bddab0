-- The text of a listing as JSON: docs/COMMANDS.md, "list".
-- A line for each member: an object with its path, and then with its value or its sequence.
use Rattle.std.specs.Prelude.{ℕ, List, [], ◌∷◌, codes, decimal}
use Rattle.hex.specs.Hex.{encode_lower}
use Rattle.json.specs.Token.{Token, begin_object, end_object, key, string}
use Rattle.json.specs.Json.{Items, Json, Members, array, item, member, no_items, no_members, number, object}
use Rattle.bolt_tree.specs.{Entries.Bucket, Entries.Item, Entries.Value, Listing.Member, Paths.Path}
use Rattle.bolt_text.specs.{Forms.json_text, Lines.line}

-- by the JSON value of a key or a value
module _ (shown : List ℕ → Json) where
  -- the parts of a path
  abbrev pub parts_json : Path → Items
  parts_json [] = no_items
  parts_json (part ∷ path) = item (shown part) (parts_json path)

  -- a value, or the sequence of a bucket
  abbrev pub end_json : Item → Members
  end_json (Value value) = member (codes "value") (shown value) no_members
  end_json (Bucket sequence) = member (codes "bucket") (number (decimal sequence)) no_members

  abbrev pub member_json : Member → Json
  member_json m = object (member (codes "path") (array (parts_json m.0)) (end_json m.1))

  unfoldable pub json_line : Member → List ℕ
  json_line m = line (json_text (member_json m))

-- the tokens of an object with the digits of bytes
abbrev pub digits_tokens : List ℕ → List Token
digits_tokens bytes = begin_object ∷ key (codes "hex") ∷ string (encode_lower bytes) ∷ end_object ∷ []
