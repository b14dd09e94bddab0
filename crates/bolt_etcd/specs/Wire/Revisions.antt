-- A revision: an entry of etcd's bucket `key` whose key is a revision key, and whose value is a record.
use Rattle.std.specs.Prelude.{Bool, List, [], ℕ, Option, Some, None, if◌then◌else◌}
use Rattle.bolt_check.specs.Keys.{Key}
use Rattle.bolt_tree.specs.Entries.{Bucket, EntryView, Item, Value}
use Rattle.bolt_etcd.specs.{Wire.Records.RecordView, Wire.Records.record_of, Wire.RevisionKeys.revision_key, Wire.RevisionKeys.is_mark}
use Rattle.bolt_etcd.specs.{Wire.Fields.◌>>=◌, declared.wire.revision_key.RevisionKey.RevisionKey}

-- a revision: its key as it is stored, by which revisions are ordered, what that key says, and what the revision says
pub record RevisionView : Type 0 where
  pub stored_key : Key
  pub key : RevisionKey
  pub content : RecordView

-- a deletion has a name alone, and the revision that wrote it, whatever else its record says
abbrev pub without_value : RecordView → RecordView
without_value r = record r { created = 0; version = 0; value = []; lease = 0 }

abbrev pub record_content : Bool → RecordView → RecordView
record_content deleted r = if deleted then without_value r else r

-- the record under a revision key; a mark is none
abbrev pub record_under : RevisionKey → List ℕ → Option RecordView
record_under k value = if is_mark k value then None else record_of value

-- the revision under a key with a value
abbrev pub revision_in : List ℕ → List ℕ → Option RevisionView
revision_in key value = do
  k ← revision_key key
  r ← record_under k value
  Some (record { stored_key = key; key = k; content = record_content k.deleted r })

abbrev pub value_of : Item → Option (List ℕ)
value_of (Value value) = Some value
value_of (Bucket sequence) = None

-- the revision that an entry is, if it is one
unfoldable pub revision_of : EntryView → Option RevisionView
revision_of e = value_of e.item >>= revision_in e.key

-- the name of a revision
abbrev pub name_of : RevisionView → List ℕ
name_of r = r.content.name
