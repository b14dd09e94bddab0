-- What a revision of the code shows, without where its bytes lie in memory.
use Rattle.std.specs.Prelude.{ℕ, false, List, [], Option, Some, None}
use Rattle.bolt_check.specs.Keys.{Key}
use Rattle.bolt_tree.specs.Entries.{EntryView, Value, item_bytes}
use Rattle.bolt_etcd.specs.{Wire.Records.empty, Wire.Revisions.RevisionView, Wire.Revisions.revision_in, Wire.ShownRecords.shown_record}
use Rattle.bolt_etcd.specs.{declared.wire.revision.DecodedRevision.DecodedRevision, declared.wire.revision.Revision.Revision}

-- what was decoded, under its stored key, as a revision
abbrev pub shown_decoded : Key → DecodedRevision → RevisionView
shown_decoded stored_key d = record { stored_key = stored_key; key = d.key; content = shown_record d.content }

-- the revision if there is one; of `None` any
abbrev pub or_nothing : Option RevisionView → RevisionView
or_nothing (Some r) = r
or_nothing None = record { stored_key = []; key = record { main = 0; sub = 0; deleted = false }; content = empty }

-- the revision that the stored value is under its key; by the ghost field of `Revision` there always is one
unfoldable pub shown_revision : Revision → RevisionView
shown_revision r = or_nothing (revision_in r.key.now r.value.now)

-- the entry that a revision is
abbrev pub entry_of : Revision → EntryView
entry_of r = record { key = r.key.now; item = Value r.value.now }

-- ---- what an entry says, without its record

abbrev pub value_bytes : EntryView → List ℕ
value_bytes e = item_bytes e.item
