-- A revision as a JSON object, and what a reader finds in it: docs/COMMANDS.md, "etcd-revisions".
use Rattle.std.specs.Prelude.{◌≡◌, ℕ, ◌<◌, ◌^◌, Bool, List, Option, Some, None, codes, decimal, length, option_and_then, option_map, false}
use Rattle.std.specs.Prelude.{if◌then◌else◌}
use Rattle.std.specs.{Fmt.digits, Str.Parse.digits_value}
use Rattle.hex.specs.Hex.{IsBytes}
use Rattle.json.specs.Json.{Json, Members, document, member, no_members, number, object, string}
use Rattle.bolt_text.specs.{Forms.json_text, JsonReadings.object_members, JsonReadings.named, JsonReadings.number_under, JsonReadings.string_of}
use Rattle.bolt_etcd.specs.{Wire.Revisions.RevisionView, Wire.Fields.◌>>=◌}

-- the value of a revision as a member of an object, if values are wanted; the function writes it as JSON
abbrev pub value_member : (List ℕ → Json) → (values : Bool) → RevisionView → Members
value_member shown values r = if values then member (codes "value") (shown r.content.value) no_members else no_members

-- a revision as JSON: its numbers, its name and, if values are wanted, its value
abbrev pub revision_json : (List ℕ → Json) → (values : Bool) → RevisionView → Json
revision_json shown values r = object
    (member (codes "revision") (number (decimal r.key.main)) (member (codes "sub") (number (decimal r.key.sub))
    (member (codes "created") (number (decimal r.content.created)) (member (codes "version") (number (decimal r.content.version))
    (member (codes "lease") (string (digits 16 false r.content.lease)) (member (codes "bytes") (number (decimal (length r.content.value)))
    (member (codes "name") (shown r.content.name) (value_member shown values r))))))))

-- what a reader finds of a revision; the value only if it is there
pub record ReadRevision : Type 0 where
  pub revision : ℕ
  pub sub : ℕ
  pub created : ℕ
  pub version : ℕ
  pub lease : ℕ
  pub bytes : ℕ
  pub name : List ℕ
  pub value : Option (List ℕ)

-- the number that the digits of a string write in hexadecimal
abbrev pub hex_number_of : Json → Option ℕ
hex_number_of json = option_map (digits_value 16) (string_of json)

-- `read` reads a name or a value
module _ (read : Json → Option (List ℕ)) where
  abbrev pub value_if_there : Option Json → Option (Option (List ℕ))
  value_if_there None = Some None
  value_if_there (Some json) = option_map Some (read json)

  abbrev pub read_members : Members → Option ReadRevision
  read_members ms = do
    revision ← number_under (codes "revision") ms
    sub ← number_under (codes "sub") ms
    created ← number_under (codes "created") ms
    version ← number_under (codes "version") ms
    lease ← option_and_then hex_number_of (named (codes "lease") ms)
    bytes ← number_under (codes "bytes") ms
    name ← option_and_then read (named (codes "name") ms)
    value ← value_if_there (named (codes "value") ms)
    Some (record { revision = revision; sub = sub; created = created; version = version; lease = lease; bytes = bytes; name = name; value = value })

  abbrev pub read_revision : Json → Option ReadRevision
  read_revision json = option_and_then read_members (object_members json)

-- the numbers of a revision have 64 bits, and its name and its value are bytes
pub record IsOfBytes (r : RevisionView) : Type 0 where
  pub main : r.key.main < 2 ^ 64
  pub sub : r.key.sub < 2 ^ 64
  pub created : r.content.created < 2 ^ 64
  pub version : r.content.version < 2 ^ 64
  pub lease : r.content.lease < 2 ^ 64
  pub bytes : length r.content.value < 2 ^ 64
  pub name : IsBytes r.content.name
  pub value : IsBytes r.content.value

-- what a reader is to find of a revision
abbrev pub as_read : (values : Bool) → RevisionView → ReadRevision
as_read values r = record {
  revision = r.key.main;
  sub = r.key.sub;
  created = r.content.created;
  version = r.content.version;
  lease = r.content.lease;
  bytes = length r.content.value;
  name = r.content.name;
  value = if values then Some r.content.value else None;
}

-- revisions as JSON, with names and values as `write` writes them, are read back by `read`
abbrev pub ReadsRevisionsBack : (read : Json → Option (List ℕ)) → (write : List ℕ → Json) → Type 0
ReadsRevisionsBack read write = (values : Bool) (r : RevisionView) → IsOfBytes r
    → option_and_then (read_revision read) (document (json_text (revision_json write values r))) ≡ Some (as_read values r)
