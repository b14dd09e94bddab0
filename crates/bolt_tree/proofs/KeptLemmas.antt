-- Cursors that wait, and go on.
use Rattle.std.proofs.lemmas.Grind.{common_steps}
use Rattle.std.proofs.Common.{◌≡◌, ◌∙◌, ◌≤◌, ◌-◌, ℕ, Bool, List, [], ◌∷◌, ◌++◌, Option, Some, None, drop, take, length, reverse, refl, sym, ap, subst}
use Rattle.std.proofs.Common.{arith}
use Rattle.bolt_tree.proofs.Words.{AreKept, AreCursorsOfFile, BucketView, Checked, Cursor, CursorView, Frame, HasStack, IsResting, IsInnermost}
use Rattle.bolt_tree.proofs.Words.{IsKeptStack, Position, Trail, bucket_in, cursor_checked, cursor_trail, cursor_view}
use Rattle.bolt_tree.proofs.Words.{drop-append_seam, frames_of, innermost_views, kept_view, kept_views, length-append, length-drop, pager_checked}
use Rattle.bolt_tree.proofs.Words.{props, reverse-append, same_from_push, start_at, take-append_seam, take-length, ∥∥₁_elim, ∥∥₁_map}
use Rattle.bolt_tree.proofs.{StackLemmas.stack_short, TrailLemmas.length-frames}
use Rattle.bolt_tree.specs.{declared.at.At.At, declared.open_buckets.WaitingCursor.WaitingCursor}
use Rattle.bolt_tree.specs.Cursors.{cursor_viewers}

frames_short : (bucket : BucketView) (frames : List Frame) → HasStack bucket frames → length frames ≤ 64
frames_short bucket [] stack = omega arith
frames_short bucket (f ∷ below) stack = stack_short bucket f below stack

-- so many positions have room in a cursor
pub kept_short : (checked : Checked) (at : At) (is_past : Bool) (positions : List Position) → ∥ IsKeptStack checked at is_past positions ∥₁
    → length positions ≤ 64
kept_short checked at is_past positions kept =
    ∥∥₁_elim kept (hlevel props) (λ k.
    subst (λ (n : ℕ). n ≤ 64) (length-frames positions) (frames_short (bucket_in checked (start_at at)) (frames_of positions) k.stack))

-- a cursor goes on by the positions that were kept
pub resumed : (trail : Trail) (is_past : Bool) (checked : Checked) (positions : List Position) → pager_checked trail.pages.pager ≡ checked
    → trail.positions ≡ positions
    → ∥ IsKeptStack checked trail.pages.at is_past positions ∥₁ → ∥ IsResting trail is_past ∥₁
resumed trail is_past checked positions file items kept =
    ∥∥₁_map kept (λ k. record { stack = rw (file, items) k.stack; rest = rw items k.rest; empty = rw items k.empty })

-- those of a cursor may be kept
resting_kept : (trail : Trail) (is_past : Bool) (checked : Checked) → pager_checked trail.pages.pager ≡ checked → IsResting trail is_past
    → IsKeptStack checked trail.pages.at is_past trail.positions
resting_kept trail is_past checked file h = record {
  stack = subst (λ (c : Checked). HasStack (bucket_in c (start_at trail.pages.at)) (frames_of trail.positions)) file h.stack;
  rest = h.rest;
  empty = h.empty;
}

-- one more that waits
module _ (checked : Checked) (waiting : List WaitingCursor) (w : WaitingCursor) (positions more : List Position) (begins : w.begin ≡ length positions) where
  dropped : drop w.begin (positions ++ more) ≡ more
  dropped = ap (λ (n : ℕ). drop n (positions ++ more)) begins ∙ drop-append_seam positions more

  taken : take w.begin (positions ++ more) ≡ positions
  taken = ap (λ (n : ℕ). take n (positions ++ more)) begins ∙ take-append_seam positions more

  pub one_more : AreKept checked (reverse waiting) positions → IsKeptStack checked w.at w.is_past more
      → AreKept checked (reverse (waiting ++ w ∷ [])) (positions ++ more)
  one_more are is = grind (arith, length-append, dropped, taken, reverse-append)

  pub one_more_view : kept_views checked (reverse (waiting ++ w ∷ []))
      (positions ++ more) ≡ kept_views checked (reverse waiting) positions ++ kept_view checked w.at w.is_past more ∷ []
  one_more_view = grind (arith, taken, dropped, reverse-append)

-- a cursor of the file shows what its positions show
cursor_kept : (checked : Checked) (cursor : Cursor) → cursor_checked cursor ≡ checked
    → kept_view checked cursor.pages.at cursor.is_past cursor.stack.items ≡ cursor_view cursor
unfolding cursor_viewers
cursor_kept checked cursor file = ap (λ (c : Checked). kept_view c cursor.pages.at cursor.is_past cursor.stack.items) (sym file)

pub file_of : (checked : Checked) (cursor : Cursor) → cursor_checked cursor ≡ checked → pager_checked cursor.pages.pager ≡ checked
unfolding cursor_checked
file_of checked cursor file = file

-- the innermost cursor waits, and another one is put behind it
module _ (checked : Checked) (waiting : List WaitingCursor) (positions : List Position) (innermost : Option Cursor) (outer cursor : Cursor) (begin : ℕ)
    (known : ∥ AreCursorsOfFile checked waiting positions innermost ∥₁) (is : innermost ≡ Some outer) (begins : begin ≡ length positions)
    (file : cursor_checked cursor ≡ checked) where
  abbrev put : WaitingCursor
  put = record { at = outer.pages.at; is_past = outer.is_past; begin = begin }

  of_file : AreCursorsOfFile checked waiting positions innermost → cursor_checked outer ≡ checked
  of_file k = subst (λ (o : Option Cursor). IsInnermost checked waiting o) is k.1

  pub waits : ∥ AreCursorsOfFile checked (waiting ++ put ∷ []) (positions ++ outer.stack.items) (Some cursor) ∥₁
  waits =
      ∥∥₁_elim known (hlevel props) (λ k. ∥∥₁_map outer.resting (λ h. (
        one_more checked waiting put positions outer.stack.items begins k.0
            (resting_kept (cursor_trail outer) outer.is_past checked (file_of checked outer (of_file k)) h),
        file,
      )))

  pub waits_view : kept_views checked (reverse (waiting ++ put ∷ []))
      (positions ++ outer.stack.items) ≡ kept_views checked (reverse waiting) positions ++ innermost_views innermost
  waits_view =
      ∥∥₁_elim known (hlevel props) (λ k.
      one_more_view checked waiting put positions outer.stack.items begins
      ∙ (ap (λ (v : CursorView). kept_views checked (reverse waiting) positions ++ v ∷ []) (cursor_kept checked outer (of_file k))
      ∙ ap (λ (o : Option Cursor). kept_views checked (reverse waiting) positions ++ innermost_views o) (sym is)))

-- without an innermost cursor there is none
pub none_open : (checked : Checked) (waiting : List WaitingCursor) (positions : List Position) (innermost : Option Cursor)
    → ∥ AreCursorsOfFile checked waiting positions innermost ∥₁ → innermost ≡ None
    → ∥ kept_views checked (reverse waiting) positions ++ innermost_views innermost ≡ [] ∥₁
none_open checked waiting positions innermost known is =
    ∥∥₁_map known (λ k.
    let none : waiting ≡ [] = subst (λ (o : Option Cursor). IsInnermost checked waiting o) is k.1 in
    ap (λ (o : Option Cursor). kept_views checked (reverse waiting) positions ++ innermost_views o) is
    ∙ ap (λ (ws : List WaitingCursor). kept_views checked (reverse ws) positions ++ []) none)

-- A cursor is open, and the innermost one moves.
module _ (checked : Checked) (waiting : List WaitingCursor) (positions : List Position) (innermost : Option Cursor)
    (known : ∥ AreCursorsOfFile checked waiting positions innermost ∥₁) where
  pub some_innermost : (kept_views checked (reverse waiting) positions ++ innermost_views innermost ≡ [] → ⊥) → innermost ≡ None → ⊥
  some_innermost some none = ∥∥₁_elim (none_open checked waiting positions innermost known none) (hlevel props) some

  pub moved_file : (cursor moved : Cursor) → innermost ≡ Some cursor → cursor_checked moved ≡ cursor_checked cursor
      → ∥ AreCursorsOfFile checked waiting positions (Some moved) ∥₁
  moved_file cursor moved is file = ∥∥₁_map known (λ k. (k.0, file ∙ subst (λ (o : Option Cursor). IsInnermost checked waiting o) is k.1))

-- the first one
pub first_one : (checked : Checked) (waiting : List WaitingCursor) (positions : List Position) (innermost : Option Cursor) (cursor : Cursor)
    → ∥ AreCursorsOfFile checked waiting positions innermost ∥₁ → innermost ≡ None
    → cursor_checked cursor ≡ checked → ∥ AreCursorsOfFile checked waiting positions (Some cursor) ∥₁
first_one checked waiting positions innermost cursor known is file = ∥∥₁_map known (λ k. (k.0, file))

-- the innermost cursor is one of the file, and there is one where another waits
pub innermost_file : (checked : Checked) (waiting : List WaitingCursor) (positions : List Position) (innermost : Option Cursor) (cursor : Cursor)
    → ∥ AreCursorsOfFile checked waiting positions innermost ∥₁
    → innermost ≡ Some cursor → cursor_checked cursor ≡ checked
innermost_file checked waiting positions innermost cursor known is =
    ∥∥₁_elim known (hlevel props) (λ k. subst (λ (o : Option Cursor). IsInnermost checked waiting o) is k.1)

-- what a cursor shows that goes on by the last of the positions
pub goes_on_view : (checked file : Checked) (w : WaitingCursor) (positions slice : List Position) (view : CursorView) → file ≡ checked
    → slice ≡ positions
    → view ≡ kept_view file w.at w.is_past (take (length slice - w.begin) (drop w.begin slice))
    → view ≡ kept_view checked w.at w.is_past (take (length positions - w.begin) (drop w.begin positions))
goes_on_view checked file w positions slice view same_file same_positions shown = shown ∙ rw (same_file, same_positions) refl

-- the last one that waits is taken off
module _ (checked : Checked) (old new : List WaitingCursor) (w : WaitingCursor) (positions : List Position) (innermost : Option Cursor)
    (known : ∥ AreCursorsOfFile checked old positions innermost ∥₁) (split : old ≡ new ++ w ∷ []) where
  all_but : AreCursorsOfFile checked old positions innermost → AreKept checked (w ∷ reverse new) positions
  all_but k = subst (λ (ws : List WaitingCursor). AreKept checked ws positions) (ap reverse split ∙ reverse-append new (w ∷ [])) k.0

  whole : drop w.begin positions ≡ take (length positions - w.begin) (drop w.begin positions)
  whole = sym (ap (λ (n : ℕ). take n (drop w.begin positions)) (sym (length-drop w.begin positions)) ∙ take-length (drop w.begin positions))

  pub goes_on : ∥ IsKeptStack checked w.at w.is_past (take (length positions - w.begin) (drop w.begin positions)) ∥₁
  goes_on = ∥∥₁_map known (λ k. subst (λ (ps : List Position). IsKeptStack checked w.at w.is_past ps) whole (all_but k).1)

  pub others : (cursor : Cursor) → cursor_view cursor ≡ kept_view checked w.at w.is_past (take (length positions - w.begin) (drop w.begin positions))
      → ∥ AreCursorsOfFile checked new (take w.begin positions) (Some cursor) ∥₁
  others cursor view = ∥∥₁_map known (λ k. ((all_but k).2, ap (λ (v : CursorView). v.checked) view))

  under : (o : Option Cursor) (outer : List CursorView) (last : CursorView) → IsInnermost checked old o
      → kept_views checked (reverse old) positions ++ innermost_views o ≡ outer ++ last ∷ []
      → kept_views checked (reverse old) positions ≡ outer
  under o outer last none e = grind (arith, common_steps, same_from_push)

  pub views_left : (cursor : Cursor) (outer : List CursorView) (last : CursorView)
      → cursor_view cursor ≡ kept_view checked w.at w.is_past (take (length positions - w.begin) (drop w.begin positions))
      → kept_views checked (reverse old) positions ++ innermost_views innermost ≡ outer ++ last ∷ []
      → kept_views checked (reverse new) (take w.begin positions) ++ cursor_view cursor ∷ [] ≡ outer
  views_left cursor outer last view all =
      let same : kept_views checked (reverse new) (take w.begin positions) ++ cursor_view cursor ∷ [] ≡ kept_views checked (reverse old) positions =
      ap (λ (v : CursorView). kept_views checked (reverse new) (take w.begin positions) ++ v ∷ []) (view ∙ ap (kept_view checked w.at w.is_past) (sym whole))
      ∙ sym (ap (λ (ws : List WaitingCursor). kept_views checked ws positions) (ap reverse split ∙ reverse-append new (w ∷ []))) in
      same ∙ (∥∥₁_elim known (hlevel props) (λ k. under innermost outer last k.1 all))

-- the same of the same
pub same_file : (checked : Checked) (waiting others : List WaitingCursor) (positions more : List Position) (innermost : Option Cursor)
    → others ≡ waiting → more ≡ positions
    → ∥ AreCursorsOfFile checked waiting positions innermost ∥₁ → ∥ AreCursorsOfFile checked others more innermost ∥₁
same_file checked waiting others positions more innermost same_waiting same_positions known = rw (same_waiting, same_positions) known

pub same_views : (checked : Checked) (waiting others : List WaitingCursor) (positions more : List Position) → others ≡ waiting → more ≡ positions
    → kept_views checked (reverse others) more ≡ kept_views checked (reverse waiting) positions
same_views checked waiting others positions more same_waiting same_positions = rw (same_waiting, same_positions) refl

pub put_last : (waiting others put : List WaitingCursor) (at place : At) (is_past was : Bool) (begin : ℕ)
    → put ≡ others ++ record { at = at; is_past = is_past; begin = begin } ∷ [] → others ≡ waiting
    → at ≡ place → is_past ≡ was → put ≡ waiting ++ record { at = place; is_past = was; begin = begin } ∷ []
put_last waiting others put at place is_past was begin e same same_at same_past = e ∙ rw (same, same_at, same_past) refl

-- what is shown where a fresh cursor is put behind the others
pub opens_fresh : (before after : List CursorView) (view fresh : CursorView) → after ≡ before → view.checked ≡ fresh.checked
    → view.start ≡ fresh.start → view.place ≡ fresh.place
    → after ++ view ∷ [] ≡ before ++ fresh ∷ []
opens_fresh before after view fresh same file start place = grind arith
