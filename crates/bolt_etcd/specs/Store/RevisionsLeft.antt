-- What a pass over the revisions of a bucket has ahead of it.
use Rattle.std.specs.Prelude.{◌≡◌, ℕ, Bool, false, List, [], ◌∷◌, length, not, Option, Some, None, ⊤}
use Rattle.std.specs.Option.{is_some}
use Rattle.bolt_format.specs.Elements.{LeafElement}
use Rattle.bolt_check.specs.{CheckedFiles.bytes_of, CheckedFiles.meta_of, Counts.counted, Keys.Key, declared.checked.Checked.Checked}
use Rattle.bolt_tree.specs.{BucketViews.BucketView, BucketViews.bucket_in, CursorBounds.OpensByNext, CursorBounds.OpensSeek, Cursors.cursor_opened}
use Rattle.bolt_tree.specs.{Entries.entry_view}
use Rattle.bolt_tree.specs.{Cursors.cursor_checked, Cursors.cursor_place, Cursors.cursor_start, Entries.Start, EntriesLeft.ForEntries}
use Rattle.bolt_tree.specs.{EntriesLeft.entries_left, FileTrees.file_entries, Places.Place}
use Rattle.bolt_etcd.specs.{Wire.Revisions.RevisionView, Wire.Revisions.revision_of, Store.Stores.entries_from, Store.Stores.unread_elements}
use Rattle.bolt_etcd.specs.{Store.Stores.revisions, declared.store.revisions.Revisions.Revisions}

unfoldable pub pass_checked : Revisions → Checked
pass_checked pass = cursor_checked pass.cursor

unfoldable pub pass_start : Revisions → Start
pass_start pass = cursor_start pass.cursor

-- how many entries that are neither revisions nor marks a pass has counted
unfoldable pub pass_unread : Revisions → ℕ
pass_unread pass = pass.unread

-- how many pages a pass has opened
unfoldable pub pass_opened : Revisions → ℕ
pass_opened pass = cursor_opened pass.cursor

-- the entries that a pass has ahead: those from a key on, if it is still to seek that key, or those after the place of its cursor
abbrev pub ahead_at : Option Key → Place → List LeafElement → List LeafElement
ahead_at (Some key) place entries = entries_from key entries
ahead_at None place entries = entries_left entries place

unfoldable pub ahead_of : Revisions → List LeafElement → List LeafElement
ahead_of pass entries = ahead_at pass.from (cursor_place pass.cursor) entries

-- the entries of a pass's bucket, computed from the pages of the file
abbrev pub pass_entries : Revisions → List LeafElement
pass_entries pass = file_entries (bytes_of (pass_checked pass)) (meta_of (pass_checked pass)) (pass_start pass)

-- how many entries a pass has ahead, so that loops over it end
unfoldable pub number_ahead : Revisions → ℕ
number_ahead pass = length (ahead_of pass (pass_entries pass))

-- a property holds of the entries of a pass's bucket
abbrev pub ForPass : Revisions → (List LeafElement → Type 0) → Type 0
ForPass pass P = ForEntries (pass_checked pass) (pass_start pass) P

-- a property holds of the entries that a pass has ahead
abbrev pub ForAhead : Revisions → (List LeafElement → Type 0) → Type 0
ForAhead pass P = ForPass pass (λ entries. P (ahead_of pass entries))

-- A pass returns the first revision ahead of it, and the later ones are left. Or there is none, and no entry is left.
abbrev pub GivesFirst : (old new : List LeafElement) → Option RevisionView → Type 0
GivesFirst old new (Some r) = revisions old ≡ r ∷ revisions new
GivesFirst old new None = (revisions old ≡ []) × (new ≡ [])

abbrev pub CountsUnread : (old new : List LeafElement) → (before after : ℕ) → Type 0
CountsUnread old new before after = counted after (length (unread_elements new)) ≡ counted before (length (unread_elements old))

-- a pass counts the entries between its two places that are neither revisions nor marks
abbrev pub CountsPassed : (old new : Revisions) → Type 0
CountsPassed old new = ForPass old (λ entries. CountsUnread (ahead_of old entries) (ahead_of new entries) (pass_unread old) (pass_unread new))

-- the pages that are opened for one entry more: those that a seek of the key opens, or a step of the cursor
abbrev pub OpensAt : BucketView → Option Key → Place → (old new : ℕ) → Type 0
OpensAt bucket (Some key) place old new = OpensSeek bucket key old new
OpensAt bucket None place old new = OpensByNext bucket place old new

unfoldable pub OpensOne : Revisions → (new : ℕ) → Type 0
OpensOne pass new = OpensAt (bucket_in (pass_checked pass) (pass_start pass)) pass.from (cursor_place pass.cursor) (pass_opened pass) new

-- all that a pass shows, to be unfolded together
unfoldable pub pass_viewers : ⊤
unfolding OpensOne ahead_of pass_checked pass_opened pass_unread pass_start
pass_viewers = tt

-- the first of these entries isn't a revision
abbrev pub begins_with_other : List LeafElement → Bool
begins_with_other [] = false
begins_with_other (e ∷ entries) = not (is_some (revision_of (entry_view e)))
