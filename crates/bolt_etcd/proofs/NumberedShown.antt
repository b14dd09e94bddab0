-- What the code has of a revision or a mark is what its entry says.
use Rattle.std.proofs.Common.{◌≡◌, Bool, true, false, List, ℕ, Some, refl}
use Rattle.bolt_tree.specs.Entries.{EntryView, Value}
use Rattle.bolt_etcd.specs.{Wire.Numbered.numbered_of, Wire.Records.RecordView, Wire.Records.record_of, Wire.RevisionKeys.revision_key}
use Rattle.bolt_etcd.specs.{Wire.Revisions.RevisionView, Wire.Revisions.record_content}
use Rattle.bolt_etcd.specs.{Wire.ShownNumbered.ShowsNumbered, declared.wire.numbered_entry.NumberedEntry.NumberedEntry}
use Rattle.bolt_etcd.specs.{declared.wire.revision_key.RevisionKey.RevisionKey}

same_name : (deleted : Bool) (r : RecordView) → r.name ≡ (record_content deleted r).name
same_name true r = refl
same_name false r = refl

pub shows : (entry : EntryView) (value : List ℕ) (k : RevisionKey) (content : RecordView) (n : NumberedEntry) → entry.item ≡ Value value
    → revision_key entry.key ≡ Some k
    → record_of value ≡ Some content → n.key ≡ k → n.stored_key.now ≡ entry.key → n.name.now ≡ content.name → n.value.now ≡ value
    → (r : RevisionView) × ShowsNumbered entry n r
unfolding numbered_of
shows entry value k content n item key decoded is_key is_stored is_name is_value = (
  record { stored_key = entry.key; key = k; content = record_content k.deleted content },
  record {
    found = rw (item, key, decoded) refl;
    key = is_key;
    stored_key = is_stored;
    name = rw is_name (same_name k.deleted content);
    entry_key = is_stored;
    value = rw item is_value;
  },
)
