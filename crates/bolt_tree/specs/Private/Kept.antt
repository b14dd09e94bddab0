-- What is kept of the cursors that wait: their positions.
use Rattle.std.specs.Prelude.{◌≡◌, ◌≤◌, Bool, true, List, [], ◌∷◌, ◌++◌, drop, take, length}
use Rattle.bolt_check.specs.declared.checked.Checked.{Checked}
use Rattle.bolt_tree.specs.{BucketViews.bucket_in, Entries.Start, Places.Place, Private.BucketPages.contents_in, Private.Resting.place_by}
use Rattle.bolt_tree.specs.{Private.Stacks.HasStack, Private.Stacks.IsAtRest}
use Rattle.bolt_tree.specs.{Private.Trails.frames_of, Starts.start_at, declared.at.At.At, declared.open_buckets.WaitingCursor.WaitingCursor}
use Rattle.bolt_tree.specs.{declared.stack.Position.Position}

-- a cursor without its counts: its file and bucket, and where it is
pub record CursorView : Type 0 where
  pub checked : Checked
  pub start : Start
  pub place : Place

-- the positions are a stack of the bucket, on which a cursor may rest
pub record IsKeptStack (checked : Checked) (at : At) (is_past : Bool) (positions : List Position) : Type 0 where
  pub stack : HasStack (bucket_in checked (start_at at)) (frames_of positions)
  pub rest : IsAtRest (frames_of positions)
  pub empty : is_past ≡ true → frames_of positions ≡ []

abbrev pub kept_view : Checked → At → Bool → List Position → CursorView
kept_view checked at is_past positions =
    record { checked = checked; start = start_at at; place = place_by is_past (contents_in (bucket_in checked (start_at at))) (frames_of positions) }

-- The cursors that wait, the innermost of them first: the positions of each follow those of the ones around it.
abbrev pub AreKept : Checked → List WaitingCursor → List Position → Type 0
AreKept checked [] positions = Unit {0}
AreKept checked (w ∷ outer) positions =
    (w.begin ≤ length positions) × IsKeptStack checked w.at w.is_past (drop w.begin positions) × AreKept checked outer (take w.begin positions)

abbrev pub kept_views : Checked → List WaitingCursor → List Position → List CursorView
kept_views checked [] positions = []
kept_views checked (w ∷ outer) positions = kept_views checked outer (take w.begin positions) ++ kept_view checked w.at w.is_past (drop w.begin positions) ∷ []
