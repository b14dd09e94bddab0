-- The entry that a trail rests on: an element of the page on top of its stack.
use Rattle.std.proofs.Common.{rules, ◌≡◌, ◌∙◌, ℕ, suc, ◌-◌, ◌≤◌, Bool, true, false, List, [], ◌∷◌, ◌++◌, Some, None, Option, slice_get, length, take}
use Rattle.std.proofs.Common.{refl, sym, ap, subst, arith}
use Rattle.bolt_tree.proofs.Words.{BucketView, Checked, Contains, Cursor, Content, Frame, HasStack, HasStart, HasTrail, IsAtRest, IsLeafContent, IsOn}
use Rattle.bolt_tree.proofs.Words.{IsResting, Leaf, LeafElement, MatchOption, Place, Position, RestsOn, Trail, content_length, contents_in}
use Rattle.bolt_tree.proofs.Words.{cursor_checked, cursor_place, cursor_start, cursor_trail, elements_in, entries_of, frame_of, frames_of, leaf_view}
use Rattle.bolt_tree.proofs.Words.{none-some, opened_content, option_map, pager_checked, place_by, props, slice_get_within, start_at, start_of}
use Rattle.bolt_tree.proofs.Words.{take_all, take_next, trail_bucket, trail_frames, ∥∥₁_elim, ∥∥₁_map}
use Rattle.bolt_tree.proofs.{BucketWays.starts_below, EntryOrder.contains_at, PlaceMoves.current, PlaceMoves.the_entries}
use Rattle.bolt_tree.proofs.{RestingLemmas.past_empty, RestingLemmas.resting_bucket, RestingLemmas.resting_stack, TrailLemmas.frames_push}
use Rattle.bolt_tree.proofs.{RisingEntries.tour_entries}
use Rattle.bolt_tree.specs.{Places.IsEntryAt, Places.entry_at}

-- the last position of a stack is its top
last_on : (items : List Position) (top : Position) → slice_get items (length items - 1) ≡ Some top
    → frames_of items ≡ frame_of top ∷ frames_of (take (length items - 1) items)
last_on items top at =
    let last = length items - 1 in
    let within = slice_get_within items last top at in
    let whole : items ≡ take last items ++ top ∷ [] = sym (take_all (suc last) items (omega (arith, within))) ∙ take_next items last top at in
    ap frames_of whole ∙ frames_push (take last items) top

-- a stack at rest has a leaf on top, and an element of that is taken
pub record IsRested (content : Content) (taken : ℕ) : Type 0 where
  pub leaf : IsLeafContent content
  pub some : 1 ≤ taken
  pub within : taken ≤ content_length content
  pub fits : taken ≤ 65536

rested : (content : Content) (taken : ℕ) → RestsOn content taken → taken ≤ 65536 → IsRested content taken
rested content taken rest fits = grind arith

module _ (trail : Trail) (shared : List Position) (top : Position) (same : shared ≡ trail.positions) (read : Some top ≡ slice_get shared (length shared - 1))
    (stack : HasTrail trail) (rest : IsAtRest (trail_frames trail)) where
  pub topped : trail_frames trail ≡ frame_of top ∷ frames_of (take (length trail.positions - 1) trail.positions)
  topped = last_on trail.positions top (sym (read ∙ ap (λ (ps : List Position). slice_get ps (length ps - 1)) same))

  pub top_rests : IsRested (opened_content top.page) top.taken
  top_rests =
      rested (opened_content top.page) top.taken (subst IsAtRest topped rest)
      (∥∥₁_elim (subst (HasStack (trail_bucket trail)) topped stack) (hlevel props) (λ s. s.1.0.fits))

-- ---- the place of a cursor

-- what is found on a stack is the entry at its place
found_at : (bucket : BucketView) (found : Option Leaf) (past : Bool) (frames : List Frame) (entries : List LeafElement) → elements_in bucket ≡ entries
    → (past ≡ true → frames ≡ [])
    → HasStack bucket frames → MatchOption found (frames ≡ []) (λ leaf. IsOn frames (leaf_view leaf))
    → option_map leaf_view found ≡ entry_at entries (place_by past (contents_in bucket) frames)
found_at bucket None true frames entries all empty stack on = refl
found_at bucket None false frames entries all empty stack on = rw on refl
found_at bucket (Some leaf) false (f ∷ below) entries all empty stack on = sym (rw all at (current bucket f below (leaf_view leaf) stack on))
found_at bucket found past frames entries all empty stack on = absurd (grind arith)

held_at : (entries : List LeafElement) (place : Place) (e : LeafElement) → Some e ≡ entry_at entries place → Contains entries e
held_at entries place e at = grind (arith, none-some, contains_at)

module _ (trail : Trail) (is_past : Bool) (resting : ∥ IsResting trail is_past ∥₁) where
  pub entry_on : (found : Option Leaf) → MatchOption found (trail_frames trail ≡ []) (λ leaf. IsOn (trail_frames trail) (leaf_view leaf))
      → IsEntryAt (entries_of (pager_checked trail.pages.pager)) (start_at trail.pages.at)
      (place_by is_past (contents_in (trail_bucket trail)) (trail_frames trail)) (option_map leaf_view found)
  entry_on found on = search (rules, the_entries, resting_bucket, found_at, past_empty, resting_stack)

  -- a bucket at its place is one of the tree
  pub begins_on : (place : Place) (e : LeafElement)
      → IsEntryAt (entries_of (pager_checked trail.pages.pager)) (start_at trail.pages.at) place (Some e) → e.is_bucket ≡ true
      → HasStart (pager_checked trail.pages.pager) (start_of e.value)
  begins_on place e at bucket =
      let b = trail_bucket trail in
      ∥∥₁_map (resting_bucket trail is_past resting) (λ s.
      let are = tour_entries b.file b.meta s.trees b.start s.start in
      starts_below b.file b.meta b.start e s.start ((are.exact e).0 (held_at (elements_in b) place e (at (elements_in b) are))) bucket)

-- what a cursor is on, as a bucket of the same file
module _ (cursor : Cursor) (checked : Checked) (same : cursor_checked cursor ≡ checked) where
  abbrev IsHere : Checked → Option LeafElement → Type 0
  IsHere file found = IsEntryAt (entries_of file) (cursor_start cursor) (cursor_place cursor) found

  pub begins_here : (e : LeafElement) → IsHere (cursor_checked cursor) (Some e) → e.is_bucket ≡ true → HasStart checked (start_of e.value)
  unfolding cursor_checked cursor_start
  begins_here e at bucket =
      subst (λ (file : Checked). HasStart file (start_of e.value)) same
      (begins_on (cursor_trail cursor) cursor.is_past cursor.resting (cursor_place cursor) e at bucket)
