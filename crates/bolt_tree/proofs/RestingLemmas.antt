-- What a cursor keeps, and its moves by those of its trail.
use Rattle.std.proofs.Common.{arith, ◌≡◌, ◌∙◌, ℕ, ◌-◌, ◌≤◌, Bool, true, false, List, [], ◌∷◌, Option, None, Some, length, drop, ap, refl, subst}
use Rattle.std.proofs.lemmas.Grind.{common_steps}
use Rattle.bolt_tree.proofs.Words.{BucketView, Content, Contents, EntryView, Finds, Frame, IsOfSoundTree, HasStack, HasTrail, IsAtRest, IsEntry}
use Rattle.bolt_tree.proofs.Words.{IsResting, IsMoved, Key, Leaf, LeafElement, MatchOption, Move, Moves, Of_branch, Of_leaf, OpensByNext, OpensGap}
use Rattle.bolt_tree.proofs.Words.{Place, RestsOn, ShowsMove, Start, Trail, ahead, contents_in, counted, elements_in, entry_view, first_move, is_none}
use Rattle.bolt_tree.proofs.Words.{last_move, leaf_view, least_from, next_move, opened_to, option_map, tour_pages_in, place_by, place_in, place_on}
use Rattle.bolt_tree.proofs.Words.{preceding, prev_move, props, pages_ahead, seek_move, trail_bucket, trail_frames, ∥∥₁_elim, ∥∥₁_map}
use Rattle.bolt_tree.proofs.OpeningMoves.{first_opens, next_opens}
use Rattle.bolt_tree.proofs.PlaceMoves.{Comes, first_moves, go_moves, last_moves, seek_moves, stack_bucket, the_entries}
use Rattle.bolt_tree.proofs.TrailLemmas.{empty_stack, same_bucket}

rest_on_prop : (content : Content) (taken : ℕ) → IsProp (RestsOn content taken)
rest_on_prop (Of_leaf elements) taken = Prim.hlevel props
rest_on_prop (Of_branch elements) taken = Prim.hlevel props

rest_prop : (frames : List Frame) → IsProp (IsAtRest frames)
rest_prop [] = Prim.hlevel props
rest_prop (f ∷ below) = rest_on_prop f.content f.taken

-- before the first call
pub fresh_resting : (trail : Trail) → IsOfSoundTree trail.pages → trail_frames trail ≡ [] → ∥ IsResting trail false ∥₁
fresh_resting trail is none = grind (arith, common_steps, empty_stack, is)

pub resting_stack : (trail : Trail) (is_past : Bool) → ∥ IsResting trail is_past ∥₁ → HasTrail trail
resting_stack trail is_past resting = ∥∥₁_elim resting (Prim.hlevel props) (λ h. h.stack)

pub resting_bucket : (trail : Trail) (is_past : Bool) → ∥ IsResting trail is_past ∥₁ → IsOfSoundTree trail.pages
resting_bucket trail is_past resting = stack_bucket (trail_bucket trail) (trail_frames trail) (resting_stack trail is_past resting)

pub resting_rest : (trail : Trail) (is_past : Bool) → ∥ IsResting trail is_past ∥₁ → IsAtRest (trail_frames trail)
resting_rest trail is_past resting = ∥∥₁_elim resting (rest_prop (trail_frames trail)) (λ h. h.rest)

pub past_empty : (trail : Trail) (is_past : Bool) → ∥ IsResting trail is_past ∥₁ → is_past ≡ true → trail_frames trail ≡ []
past_empty trail is_past resting past = ∥∥₁_elim resting (Prim.hlevel props) (λ h. h.empty past)

pub not_past : (trail : Trail) (is_past : Bool) → ∥ IsResting trail is_past ∥₁ → (trail_frames trail ≡ [] → ⊥) → is_past ≡ false
not_past trail false resting h = refl
not_past trail true resting h = absurd (h (∥∥₁_elim resting (Prim.hlevel props) (λ k. k.empty refl)))

-- a cursor that rests may be no more past the last entry
pub not_past_resting : (trail : Trail) (is_past : Bool) → ∥ IsResting trail is_past ∥₁ → ∥ IsResting trail false ∥₁
not_past_resting trail is_past resting = ∥∥₁_map resting (λ h. record { stack = h.stack; rest = h.rest; empty = λ e. absurd (let no : false ≡ true = e in cc) })

-- so it is after a move from an entry
pub moved_resting : (old new : Trail) (is_past : Bool) → ∥ IsResting old is_past ∥₁ → (trail_frames old ≡ [] → ⊥) → IsMoved old new
    → IsAtRest (trail_frames new) → ∥ IsResting new is_past ∥₁
moved_resting old new is_past resting some moved rest =
    ∣ record { stack = moved.stack; rest = rest; empty = λ past. absurd (some (past_empty old is_past resting past)) } ∣₁

-- what a call returns is shown as the move says
pub shows_by : (Entry : Start → LeafElement → Type 0) (bucket : Start) (move : List LeafElement → Place → Move) (old new : Place)
    (answer : Option LeafElement) (shown : Option EntryView)
    → shown ≡ option_map entry_view answer → Moves Entry bucket move old new answer → ShowsMove Entry bucket move old new shown
shows_by Entry bucket move old new answer shown e moves = λ entries are. let m = moves entries are in (m.0, e ∙ ap (option_map entry_view) m.1)

-- from the empty stack, the next move is the first and the preceding one is the last
next_first : (contents : Contents) (entries : List LeafElement)
    → first_move entries ≡ next_move entries (place_in entries (place_by false contents []))
next_first contents entries = grind arith

prev_last : (contents : Contents) (is_past : Bool) (entries : List LeafElement)
    → last_move entries ≡ prev_move entries (place_in entries (place_by is_past contents []))
prev_last contents is_past entries = grind arith

-- The moves of a trail, which stays in its bucket, as moves of a cursor over the bucket's entries.
module _ (old new : Trail) (moved : IsMoved old new) (is_past : Bool) (resting : ∥ IsResting old is_past ∥₁) (found : Option Leaf) where
  abbrev elements : List LeafElement
  elements = elements_in (trail_bucket old)

  abbrev MovesTo : (List LeafElement → Place → Move) → Place → Place → Type 0
  MovesTo move from to = Moves (IsEntry (trail_bucket old).file (trail_bucket old).meta) (trail_bucket old).start move from to (option_map leaf_view found)

  is : IsOfSoundTree old.pages
  is = resting_bucket old is_past resting

  there : HasStack (trail_bucket old) (trail_frames new)
  there = subst (λ (b : BucketView). HasStack b (trail_frames new)) (same_bucket old new moved) moved.stack

  -- what holds of the elements along the tour holds of the entries
  moves_by : (move : List LeafElement → Place → Move) (from to : Place)
      → Comes elements (move elements (place_in elements from)) to (option_map leaf_view found) → MovesTo move from to
  moves_by move from to comes = λ entries are.
      subst (λ (es : List LeafElement). Comes es (move es (place_in es from)) to (option_map leaf_view found))
      (the_entries (trail_bucket old) entries is are) comes

  pub moves_first : (from : Place) → Finds false found elements (ahead new) (trail_frames new) []
      → MovesTo (λ entries place. first_move entries) from (place_on (contents_in (trail_bucket new)) (trail_frames new))
  moves_first from h = rw moved.file (moves_by (λ entries place. first_move entries) from (place_on (contents_in (trail_bucket old)) (trail_frames new))
      (first_moves (trail_bucket old) found (trail_frames new) there (rw moved.file at h)))

  pub opens_first : (before after : ℕ) → Finds false found elements (ahead new) (trail_frames new) []
      → after ≡ counted before (length (tour_pages_in (trail_bucket old)) - length (pages_ahead new)) → OpensGap (trail_bucket old) 0 before after
  opens_first before after h opened =
      first_opens (trail_bucket old) found (trail_frames new) before after is there (rw moved.file at h) (rw moved.file at opened)

  pub moves_last : (from : Place) → Finds true found elements (preceding new) (trail_frames new) []
      → MovesTo (λ entries place. last_move entries) from (place_on (contents_in (trail_bucket new)) (trail_frames new))
  moves_last from h = rw moved.file (moves_by (λ entries place. last_move entries) from (place_on (contents_in (trail_bucket old)) (trail_frames new))
      (last_moves (trail_bucket old) found (trail_frames new) there (rw moved.file at h)))

  pub moves_seek : (key : Key) (from : Place) → Finds false found (drop (least_from key elements) elements) (ahead new) (trail_frames new) []
      → least_from key elements ≤ length elements
      → MovesTo (λ entries place. seek_move key entries) from (place_by (is_none found) (contents_in (trail_bucket new)) (trail_frames new))
  moves_seek key from h number =
      rw moved.file (moves_by (λ entries place. seek_move key entries) from (place_by (is_none found) (contents_in (trail_bucket old)) (trail_frames new))
      (seek_moves (trail_bucket old) key found (trail_frames new) there (rw moved.file at h) number))

  moves_as : (f g : List LeafElement → Place → Move) (from to : Place)
      → ((entries : List LeafElement) → f entries (place_in entries from) ≡ g entries (place_in entries from)) → MovesTo f from to → MovesTo g from to
  moves_as f g from to alike moves =
      λ entries are. let m = moves entries are in (m.0 ∙ ap (λ (t : Move). t.place) (alike entries), m.1 ∙ ap (λ (t : Move). t.answer) (alike entries))

  -- a move from the empty stack
  module _ (empty : trail_frames old ≡ []) where
    pub moves_next_first : is_past ≡ false → Finds false found elements (ahead new) (trail_frames new) []
        → MovesTo next_move (place_by is_past (contents_in (trail_bucket old)) (trail_frames old))
        (place_by is_past (contents_in (trail_bucket new)) (trail_frames new))
    moves_next_first here h =
        rw (here, empty) (moves_as (λ entries place. first_move entries) next_move (place_by false (contents_in (trail_bucket old)) [])
        (place_on (contents_in (trail_bucket new)) (trail_frames new))
        (next_first (contents_in (trail_bucket old))) (moves_first (place_by false (contents_in (trail_bucket old)) []) h))

    pub opens_next_first : (before after : ℕ) → is_past ≡ false → Finds false found elements (ahead new) (trail_frames new) []
        → after ≡ counted before (length (tour_pages_in (trail_bucket old)) - length (pages_ahead new))
        → OpensByNext (trail_bucket old) (place_by is_past (contents_in (trail_bucket old)) (trail_frames old)) before after
    opens_next_first before after here h opened = rw (here, empty) (opens_first before after h opened)

    pub moves_prev_last : Finds true found elements (preceding new) (trail_frames new) []
        → MovesTo prev_move (place_by is_past (contents_in (trail_bucket old)) (trail_frames old))
        (place_on (contents_in (trail_bucket new)) (trail_frames new))
    moves_prev_last h =
        rw empty (moves_as (λ entries place. last_move entries) prev_move (place_by is_past (contents_in (trail_bucket old)) [])
        (place_on (contents_in (trail_bucket new)) (trail_frames new))
        (prev_last (contents_in (trail_bucket old)) is_past) (moves_last (place_by is_past (contents_in (trail_bucket old)) []) h))

  pub moves_nowhere : (from to : Place) → found ≡ None → elements ≡ [] → MovesTo prev_move from to
  moves_nowhere from to none empty = moves_by prev_move from to (rw (none, empty) (refl, refl))

  -- a move from where a stack stands
  module _ (some : trail_frames old ≡ [] → ⊥) where
    pub moves_next : Finds false found (ahead old) (ahead new) (trail_frames new) (trail_frames old)
        → MovesTo next_move (place_by is_past (contents_in (trail_bucket old)) (trail_frames old))
        (place_by is_past (contents_in (trail_bucket new)) (trail_frames new))
    moves_next h =
        rw (moved.file, not_past old is_past resting some)
        (moves_by next_move (place_on (contents_in (trail_bucket old)) (trail_frames old)) (place_on (contents_in (trail_bucket old)) (trail_frames new))
        (go_moves (trail_bucket old) false found (trail_frames old) (trail_frames new) (resting_stack old is_past resting)
        (resting_rest old is_past resting) some there (rw moved.file at h)))

    pub moves_prev : Finds true found (preceding old) (preceding new) (trail_frames new) (trail_frames old)
        → MovesTo prev_move (place_by is_past (contents_in (trail_bucket old)) (trail_frames old))
        (place_by is_past (contents_in (trail_bucket new)) (trail_frames new))
    moves_prev h =
        rw (moved.file, not_past old is_past resting some)
        (moves_by prev_move (place_on (contents_in (trail_bucket old)) (trail_frames old)) (place_on (contents_in (trail_bucket old)) (trail_frames new))
        (go_moves (trail_bucket old) true found (trail_frames old) (trail_frames new) (resting_stack old is_past resting) (resting_rest old is_past resting)
        some there (rw moved.file at h)))

    pub opens_next : (before after : ℕ) → Finds false found (ahead old) (ahead new) (trail_frames new) (trail_frames old)
        → after ≡ counted before (length (pages_ahead old) - opened_to (option_map leaf_view found) (pages_ahead new))
        → OpensByNext (trail_bucket old) (place_by is_past (contents_in (trail_bucket old)) (trail_frames old)) before after
    opens_next before after h opened =
        rw (not_past old is_past resting some) (next_opens (trail_bucket old) found (trail_frames old) (trail_frames new) before after is
        (resting_stack old is_past resting) (resting_rest old is_past resting) some there (rw moved.file at h) (rw moved.file at opened))

-- a move to an entry takes a cursor from past the last one, and without an entry it stays there
abbrev IsPastStill : (was now : Bool) → Option Leaf → Type 0
IsPastStill was now found = MatchOption found (now ≡ was) (λ leaf. now ≡ false)

pub not_past_still : (was now : Bool) (found : Option Leaf) → IsPastStill was now found → was ≡ false → now ≡ false
not_past_still was now found still is = grind arith

pub moves_prev_start : (old new : Trail) (moved : IsMoved old new) (is_past now : Bool) (resting : ∥ IsResting old is_past ∥₁) (found : Option Leaf)
    → trail_frames old ≡ []
    → Finds true found (elements_in (trail_bucket old)) (preceding new) (trail_frames new) [] → IsPastStill is_past now found
    → Moves (IsEntry (trail_bucket old).file (trail_bucket old).meta) (trail_bucket old).start prev_move
    (place_by is_past (contents_in (trail_bucket old)) (trail_frames old)) (place_by now (contents_in (trail_bucket new)) (trail_frames new))
    (option_map leaf_view found)
moves_prev_start old new moved is_past now resting None empty h still = moves_nowhere old new moved is_past resting None _ _ refl h.0
moves_prev_start old new moved is_past now resting (Some leaf) empty h still = rw still (moves_prev_last old new moved is_past resting (Some leaf) empty h)
