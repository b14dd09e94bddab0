-- What the cursors of open buckets show: the innermost one is whole, of the others their positions are kept.
use Rattle.std.specs.Prelude.{◌≡◌, List, [], ◌∷◌, ◌++◌, MatchOption, Option, Some, None, reverse}
use Rattle.bolt_format.specs.Elements.{LeafElement}
use Rattle.bolt_check.specs.declared.checked.Checked.{Checked}
use Rattle.bolt_tree.specs.{BucketViews.entries_of, Buckets.bucket_checked, Buckets.bucket_start, Cursors.cursor_checked, Cursors.cursor_place}
use Rattle.bolt_tree.specs.{Cursors.cursor_start}
use Rattle.bolt_tree.specs.{Places.Fresh, Places.Move, Places.Moves, Places.Place, Private.Kept.AreKept, Private.Kept.CursorView}
use Rattle.bolt_tree.specs.{declared.bucket.Bucket.Bucket, declared.cursor.Cursor.Cursor}
use Rattle.bolt_tree.specs.{declared.open_buckets.WaitingCursor.WaitingCursor, declared.stack.Position.Position}

abbrev pub cursor_view : Cursor → CursorView
cursor_view cursor = record { checked = cursor_checked cursor; start = cursor_start cursor; place = cursor_place cursor }

-- without an innermost cursor none waits
abbrev pub IsInnermost : Checked → List WaitingCursor → Option Cursor → Type 0
IsInnermost checked waiting None = waiting ≡ []
IsInnermost checked waiting (Some cursor) = cursor_checked cursor ≡ checked

abbrev pub innermost_views : Option Cursor → List CursorView
innermost_views None = []
innermost_views (Some cursor) = cursor_view cursor ∷ []

-- all are cursors of this file
abbrev pub AreCursorsOfFile : Checked → List WaitingCursor → List Position → Option Cursor → Type 0
AreCursorsOfFile checked waiting positions innermost = AreKept checked (reverse waiting) positions × IsInnermost checked waiting innermost

-- a cursor of the bucket before the first call
abbrev pub fresh_view : Bucket → CursorView
fresh_view bucket = record { checked = bucket_checked bucket; start = bucket_start bucket; place = Fresh }

-- The bucket is opened after the others, and its cursor makes its first move in this way. If that returns no entry, the bucket is closed
-- again.
pub record Opens (bucket : Bucket) (move : List LeafElement → Place → Move) (old new : List CursorView) (answer : Option LeafElement) : Type 0 where
  pub moved : CursorView
  pub file : moved.checked ≡ bucket_checked bucket
  pub start : moved.start ≡ bucket_start bucket
  pub moves : Moves (entries_of (bucket_checked bucket)) (bucket_start bucket) move Fresh moved.place answer
  pub is : MatchOption answer (new ≡ old) (λ e. new ≡ old ++ moved ∷ [])
