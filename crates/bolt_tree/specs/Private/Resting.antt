-- What a cursor keeps between its calls, and where it is.
use Rattle.std.specs.Prelude.{◌≡◌, Bool, true, false, List, [], ◌∷◌}
use Rattle.bolt_tree.specs.{Private.Contents.Contents, Places.Fresh, Places.On, Places.Past, Places.Place}
use Rattle.bolt_tree.specs.{Private.Stacks.Frame, Private.Stacks.IsAtRest, Private.Stacks.index_of, Private.Trails.HasTrail, Private.Trails.Trail}
use Rattle.bolt_tree.specs.{Private.Trails.trail_frames}

-- A cursor at rest is on an entry of its bucket, or its stack is empty: before the first call, or past the last entry.
pub record IsResting (trail : Trail) (is_past : Bool) : Type 0 where
  pub stack : HasTrail trail
  pub rest : IsAtRest (trail_frames trail)
  pub empty : is_past ≡ true → trail_frames trail ≡ []

abbrev pub place_on : Contents → List Frame → Place
place_on contents [] = Fresh
place_on contents (frame ∷ below) = On (index_of contents (frame ∷ below))

abbrev pub place_by : Bool → Contents → List Frame → Place
place_by true contents frames = Past
place_by false contents frames = place_on contents frames
