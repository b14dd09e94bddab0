-- What a bucket has of revisions: those among its entries, in the order of the entries, which is that of their keys.
use Rattle.std.specs.Prelude.{◌≡◌, ℕ, List, drop, filter, length, map}
use Rattle.std.specs.{List.filter_map, Option.is_some}
use Rattle.bolt_format.specs.Elements.{LeafElement}
use Rattle.bolt_check.specs.{Counts.counted, Keys.Key}
use Rattle.bolt_tree.specs.{Entries.entry_view, Places.least_from, declared.bucket.Bucket.Bucket, EntriesLeft.ForBucket}
use Rattle.bolt_etcd.specs.{Wire.UnreadEntries.unread_entry_of, Wire.Revisions.RevisionView, Wire.Revisions.revision_of, Wire.ShownRevisions.shown_revision}
use Rattle.bolt_etcd.specs.{declared.store.revision_list.RevisionList.RevisionList}

-- the revisions among entries
abbrev pub revisions : List LeafElement → List RevisionView
revisions entries = filter_map (λ e. revision_of (entry_view e)) entries

-- the entries that are neither revisions nor marks
abbrev pub unread_elements : List LeafElement → List LeafElement
unread_elements entries = filter (λ e. is_some (unread_entry_of (entry_view e))) entries

-- the entries whose keys aren't below this one
abbrev pub entries_from : Key → List LeafElement → List LeafElement
entries_from key entries = drop (least_from key entries) entries

-- what was collected is all revisions among a bucket's entries, in their order, and the number of its other entries
abbrev pub IsCollected : List LeafElement → RevisionList → Type 0
IsCollected entries found = (map shown_revision found.revisions.items ≡ revisions entries) × (found.unread ≡ counted 0 (length (unread_elements entries)))

-- a property holds of a bucket's entries, if what was collected is what they have
abbrev pub ForCollected : Bucket → RevisionList → (List LeafElement → Type 0) → Type 0
ForCollected bucket found P = ForBucket bucket (λ entries. IsCollected entries found → P entries)

-- a property holds of a bucket's entries, if `number` of them are neither revisions nor marks
abbrev pub ForUnread : Bucket → ℕ → (List LeafElement → Type 0) → Type 0
ForUnread bucket number P = ForBucket bucket (λ entries. number ≡ counted 0 (length (unread_elements entries)) → P entries)
