-- What a revision or a mark of the code shows of its entry.
use Rattle.std.specs.Prelude.{◌≡◌, Option, Some, None}
use Rattle.bolt_tree.specs.Entries.{EntryView}
use Rattle.bolt_etcd.specs.{Wire.Numbered.numbered_of, Wire.Revisions.RevisionView, Wire.Revisions.name_of, Wire.ShownRevisions.value_bytes}
use Rattle.bolt_etcd.specs.{declared.wire.numbered_entry.NumberedEntry.NumberedEntry}

-- an entry is this revision or mark, and the code shows it so
pub record ShowsNumbered (entry : EntryView) (n : NumberedEntry) (r : RevisionView) : Type 0 where
  pub found : numbered_of entry ≡ Some r
  pub key : n.key ≡ r.key
  pub stored_key : n.stored_key.now ≡ r.stored_key
  pub name : n.name.now ≡ name_of r
  pub entry_key : n.stored_key.now ≡ entry.key
  pub value : n.value.now ≡ value_bytes entry

abbrev pub IsNumbered : EntryView → Option NumberedEntry → Type 0
IsNumbered entry (Some n) = (r : RevisionView) × ShowsNumbered entry n r
IsNumbered entry None = numbered_of entry ≡ None
