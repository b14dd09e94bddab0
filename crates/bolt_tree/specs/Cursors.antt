-- What a cursor shows: its file and bucket, where it is, and its counts; and what its calls do.
use Rattle.std.specs.Prelude.{ℕ, List, Option, ⊤}
use Rattle.std.specs.Option.{option_map}
use Rattle.bolt_format.specs.{ElementPlaces.leaf_view, Elements.LeafElement, declared.element.Leaf.Leaf}
use Rattle.bolt_check.specs.{Keys.Key, declared.checked.Checked.Checked}
use Rattle.bolt_tree.specs.{BucketViews.BucketView, BucketViews.bucket_in, BucketViews.entries_of, Private.BucketPages.contents_in, Entries.Start}
use Rattle.bolt_tree.specs.{Private.Resting.place_by}
use Rattle.bolt_tree.specs.{Pagers.pager_checked, Pagers.pager_opened, Places.Place, Places.IsEntryAt, Places.Move, Places.Moves, Places.ShowsMove}
use Rattle.bolt_tree.specs.{Starts.start_at}
use Rattle.bolt_tree.specs.Private.Trails.{Trail, frames_of, pages_bucket, trail_on}
use Rattle.bolt_tree.specs.{CursorBounds.OpensByNext, CursorBounds.OpensGap, CursorBounds.OpensSeek, CursorBounds.SeeksInBounds}
use Rattle.bolt_tree.specs.{ShownEntries.shown_entry, declared.entry.Entry.Entry}
use Rattle.bolt_tree.specs.declared.cursor.Cursor.{Cursor}

-- a cursor's pages and its stack
abbrev pub cursor_trail : Cursor → Trail
cursor_trail cursor = trail_on cursor.pages cursor.stack.items

unfoldable pub cursor_checked : Cursor → Checked
cursor_checked cursor = pager_checked cursor.pages.pager

unfoldable pub cursor_start : Cursor → Start
cursor_start cursor = start_at cursor.pages.at

-- where a cursor is; its place among the entries is `place_in entries` of that
unfoldable pub cursor_place : Cursor → Place
cursor_place cursor = place_by cursor.is_past (contents_in (pages_bucket cursor.pages)) (frames_of cursor.stack.items)

unfoldable pub cursor_opened : Cursor → ℕ
cursor_opened cursor = pager_opened cursor.pages.pager

unfoldable pub cursor_compared : Cursor → ℕ
cursor_compared cursor = cursor.compared

-- all that a cursor shows, to be unfolded together
unfoldable pub cursor_viewers : ⊤
unfolding cursor_checked cursor_compared cursor_opened cursor_place cursor_start
cursor_viewers = tt

abbrev pub cursor_bucket : Cursor → BucketView
cursor_bucket cursor = bucket_in (cursor_checked cursor) (cursor_start cursor)

-- A call moves the cursor as the move says, and returns the entry, or the element of the entry.
abbrev pub ReturnsEntry : (List LeafElement → Place → Move) → (old new : Cursor) → Option Entry → Type 0
ReturnsEntry move old new found =
    ShowsMove (entries_of (cursor_checked old)) (cursor_start old) move (cursor_place old) (cursor_place new) (option_map shown_entry found)

abbrev pub ReturnsElement : (List LeafElement → Place → Move) → (old new : Cursor) → Option Leaf → Type 0
ReturnsElement move old new found =
    Moves (entries_of (cursor_checked old)) (cursor_start old) move (cursor_place old) (cursor_place new) (option_map leaf_view found)

-- the element of the entry that a cursor is on
abbrev pub IsElementOf : Cursor → Option Leaf → Type 0
IsElementOf cursor found = IsEntryAt (entries_of (cursor_checked cursor)) (cursor_start cursor) (cursor_place cursor) (option_map leaf_view found)

-- what the calls open
abbrev pub FirstOpens : (old new : Cursor) → Type 0
FirstOpens old new = OpensGap (cursor_bucket old) 0 (cursor_opened old) (cursor_opened new)

abbrev pub NextOpens : (old new : Cursor) → Type 0
NextOpens old new = OpensByNext (cursor_bucket old) (cursor_place old) (cursor_opened old) (cursor_opened new)

abbrev pub SeekOpens : Key → (old new : Cursor) → Type 0
SeekOpens key old new = OpensSeek (cursor_bucket old) key (cursor_opened old) (cursor_opened new)

-- how deep a seek goes, and how often it compares
abbrev pub SeekCompares : Key → (old new : Cursor) → Type 0
SeekCompares key old new = SeeksInBounds (cursor_bucket old) key (cursor_compared new)
