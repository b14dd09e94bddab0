-- Why an entry is neither a revision nor a mark: it is a bucket or its key is no revision key, or its value is no record.
use Rattle.std.specs.Prelude.{◌≡◌, ℕ, List, [], ◌∷◌, Option, Some, None}
use Rattle.std.specs.List.{filter_map}
use Rattle.bolt_check.specs.Keys.{Key}
use Rattle.bolt_format.specs.Elements.{LeafElement}
use Rattle.bolt_tree.specs.Entries.{EntryView, entry_view}
use Rattle.bolt_etcd.specs.{Wire.Records.RecordView, Wire.Records.record_of, Wire.RevisionKeys.revision_key, Wire.Revisions.value_of}
use Rattle.bolt_etcd.specs.{declared.wire.revision_key.RevisionKey.RevisionKey}
use Rattle.bolt_etcd.specs.{declared.wire.unread_entry.UnreadEntry.UnreadEntry}
use Rattle.bolt_etcd.specs.declared.wire.unread_entry.UnreadEntry.TheVariants as unread

pub data UnreadView : Type 0 where
  Unread_key : Key → UnreadView
  No_record : RevisionKey → UnreadView

abbrev pub unread_by_record : Key → Option RevisionKey → Option RecordView → Option UnreadView
unread_by_record key None content = Some (Unread_key key)
unread_by_record key (Some k) None = Some (No_record k)
unread_by_record key (Some k) (Some content) = None

abbrev pub unread_by_value : Key → Option (List ℕ) → Option UnreadView
unread_by_value key None = Some (Unread_key key)
unread_by_value key (Some value) = unread_by_record key (revision_key key) (record_of value)

-- what an entry is, if it is neither a revision nor a mark: a mark is a record without fields
unfoldable pub unread_entry_of : EntryView → Option UnreadView
unread_entry_of e = unread_by_value e.key (value_of e.item)

-- the entries that are neither revisions nor marks, in their order
abbrev pub unread_entries : List LeafElement → List UnreadView
unread_entries entries = filter_map (λ e. unread_entry_of (entry_view e)) entries

-- the first entry that is neither a revision nor a mark is returned, and the later ones are left; or none is left
abbrev pub GivesUnread : (old new : List LeafElement) → Option UnreadView → Type 0
GivesUnread old new (Some o) = unread_entries old ≡ o ∷ unread_entries new
GivesUnread old new None = (unread_entries old ≡ []) × (new ≡ [])

-- ---- as the code has them

abbrev pub shown_unread : UnreadEntry → UnreadView
shown_unread (unread.Key key) = Unread_key key.now
shown_unread (unread.Record key) = No_record key
