-- How open buckets change: a cursor is removed and added again, or opened after the others and makes its first move.
use Rattle.std.proofs.Common.{arith, rules, ◌≡◌, ◌∙◌, ◌-◌, ℕ, suc, List, [], ◌∷◌, ◌++◌, take, Option, Some, None, MatchOption, refl, sym, ap}
use Rattle.std.proofs.Common.{subst, append_assoc, append-nil, Bor, slice_get}
use Rattle.std.proofs.lemmas.Grind.{common_steps}
use Rattle.bolt_lemmas.proofs.Exports.{not_nil}
use Rattle.bolt_tree.proofs.Words.{AreEntries, AreOpen, Bucket, Checked, Cursor, CursorView, Fresh, HasEntries, Key, LeafElement, Lists, Member, Move}
use Rattle.bolt_tree.proofs.Words.{Moves, Names, Opens, Path, Place, Start, beyond, cursor_checked, cursor_place, cursor_start, cursor_view}
use Rattle.bolt_tree.proofs.Words.{cursors_of, entries_of, first_move, fresh_view, innermost_views, item_of, next_move, option_to_list, path_of}
use Rattle.bolt_tree.proofs.Words.{rest_after, root_start, same_from_push, waiting_of}
use Rattle.bolt_tree.proofs.{CursorMoves.ComesTo, CursorMoves.comes_next, EntryOrder.contains_at, Giving.give_after_last, Giving.give_next}
use Rattle.bolt_tree.proofs.{KeptLemmas.some_innermost}
use Rattle.bolt_tree.specs.{Private.OpenBuckets.StandsOn, declared.open_buckets.OpenBuckets.OpenBuckets}

pub path_push : (xs : List (Bor (List ℕ))) (x : Bor (List ℕ)) → path_of (xs ++ x ∷ []) ≡ path_of xs ++ x.now ∷ []
path_push [] x = refl
path_push (y ∷ xs) x = ap (λ (ks : Path). y.now ∷ ks) (path_push xs x)

-- one that has the same keys, and one more
pub path_put : (xs ys zs : List (Bor (List ℕ))) (x : Bor (List ℕ)) → ys ≡ xs → zs ≡ ys ++ x ∷ [] → path_of zs ≡ path_of xs ++ x.now ∷ []
path_put xs ys zs x same put = ap path_of (put ∙ ap (λ (ks : List (Bor (List ℕ))). ks ++ x ∷ []) same) ∙ path_push xs x

-- what stands open below the last cursor, and what is known of that
pub record Top (checked : Checked) (before : Path) (cursors : List CursorView) (cursor : CursorView) (keys : Path) : Type 0 where
  pub front : Path
  pub key : Key
  pub split : keys ≡ front ++ key ∷ []
  pub below : AreOpen checked before cursors front
  pub checked_file : cursor.checked ≡ checked
  pub names : Names (entries_of checked) (root_start checked) (before ++ front) cursor.start
  pub stands : StandsOn (entries_of checked) cursor key

pub open_pop : (checked : Checked) (before : Path) (cursors : List CursorView) (cursor : CursorView) (keys : Path)
    → AreOpen checked before (cursors ++ cursor ∷ []) keys
    → Top checked before cursors cursor keys
open_pop checked before [] cursor (key ∷ []) (same, names, stands, more) = grind (arith, append-nil before)
open_pop checked before (c ∷ cursors) cursor (key ∷ keys) (same, names, stands, more) =
    grind (arith, append_assoc, open_pop checked (before ++ key ∷ []) cursors cursor keys more)
open_pop checked before cursors cursor keys h = absurd (grind arith)

pub open_push : (checked : Checked) (before : Path) (cursors : List CursorView) (cursor : CursorView) (keys : Path) (key : Key)
    → AreOpen checked before cursors keys
    → cursor.checked ≡ checked → Names (entries_of checked) (root_start checked) (before ++ keys) cursor.start → StandsOn (entries_of checked) cursor key
    → AreOpen checked before (cursors ++ cursor ∷ []) (keys ++ key ∷ [])
open_push checked before [] cursor [] key h same names stands = grind (arith, same, append-nil)
open_push checked before (c ∷ cursors) cursor (k ∷ keys) key (s, n, t, more) same names stands = (
  s,
  n,
  t,
  open_push checked (before ++ k ∷ []) cursors cursor keys key more same
      (subst (λ (p : Path). Names (entries_of checked) (root_start checked) p cursor.start) (sym (append_assoc before (k ∷ []) keys)) names) stands,
)
open_push checked before cursors cursor keys key h g names stands = absurd (grind arith)

-- a key was taken off the path
pub path_popped : (old new : List (Bor (List ℕ))) (taken : Option (Bor (List ℕ))) (n m : ℕ) (front : Path) (key : Key)
    → path_of old ≡ front ++ key ∷ []
    → old ≡ new ++ option_to_list taken → new ≡ take (n - 1) old → MatchOption taken ((n ≡ 0) × (m ≡ 0)) (λ _. suc m ≡ n)
    → (path_of new ≡ front) × (suc m ≡ n)
path_popped old new taken n m front key keys items rest less = grind (arith, common_steps, same_from_push, path_push)

-- The last cursor moves on, from where it stands to where it comes.
module _ (checked : Checked) (all : HasEntries (entries_of checked) (root_start checked)) (cursors : List CursorView) (cursor moved : CursorView) (keys : Path)
    (top : Top checked [] cursors cursor keys) where
  abbrev MovesOn : Option LeafElement → Type 0
  MovesOn o = Moves (entries_of cursor.checked) cursor.start next_move cursor.place moved.place o

  -- the entry that it was on, and where it comes
  goes : (o : Option LeafElement) → MovesOn o → (entries : List LeafElement) → AreEntries (entries_of checked) cursor.start entries
      → (i : ℕ) × (old : LeafElement) × (slice_get entries i ≡ Some old) × (top.front ++ old.key ∷ [] ≡ keys) × ComesTo entries (suc i) moved.place o
  goes o moves entries are =
      let (i, old, on, at, key) = top.stands entries are in
      let here = subst (λ (file : Checked). Moves (entries_of file) cursor.start next_move cursor.place moved.place o) top.checked_file moves in
      (i, old, at, ap (λ (k : Key). top.front ++ k ∷ []) key ∙ sym top.split, comes_next entries i old cursor.place moved.place o on at (here entries are))

  -- to an entry
  pub next_stands : (e : LeafElement) → moved.start ≡ cursor.start → MovesOn (Some e) → StandsOn (entries_of checked) moved e.key
  next_stands e start moves entries are = grind (arith, goes)

  pub next_open : (e : LeafElement) → moved.checked ≡ cursor.checked → moved.start ≡ cursor.start → MovesOn (Some e)
      → AreOpen checked [] (cursors ++ moved ∷ []) (top.front ++ e.key ∷ [])
  next_open e file start moves = grind (arith, open_push, next_stands)

  pub next_entry : (e : LeafElement) → MovesOn (Some e) → entries_of checked cursor.start e
  next_entry e moves = grind (arith, goes, contains_at)

  pub next_given : (e : LeafElement) → MovesOn (Some e) → (listing : List Member) → Lists (entries_of checked) (root_start checked) listing
      → beyond keys listing ≡ (top.front ++ e.key ∷ [], item_of e) ∷ rest_after (top.front ++ e.key ∷ []) listing
  next_given e moves listing lists = grind (arith, goes, give_next)

  -- or to none
  pub next_ended : MovesOn None → (listing : List Member) → Lists (entries_of checked) (root_start checked) listing
      → beyond keys listing ≡ beyond top.front listing
  next_ended moves listing lists =
      let own = all top.front cursor.start top.names in
      let (i, old, at, same, short) = goes None moves own.0 own.1 in
      grind (arith, same, give_after_last)

-- A bucket is opened, and its cursor makes its first move. If that returns nothing, the bucket is closed again.
module _ (old opened : OpenBuckets) (bucket : Bucket) (cursor moved : Cursor) (cursors : cursors_of opened ≡ cursors_of old ++ fresh_view bucket ∷ [])
    (is : opened.innermost ≡ Some cursor) (file : cursor_checked moved ≡ cursor_checked cursor) (start : cursor_start moved ≡ cursor_start cursor) where
  same : (waiting_of opened ≡ cursors_of old) × (cursor_view cursor ≡ fresh_view bucket)
  same = same_from_push (waiting_of opened) (cursors_of old) (cursor_view cursor) (fresh_view bucket)
      (sym (ap (λ (o : Option Cursor). waiting_of opened ++ innermost_views o) is) ∙ cursors)

  pub opens : (move : List LeafElement → Place → Move) (answer : Option LeafElement) (after : List CursorView)
      → Moves (entries_of (cursor_checked cursor)) (cursor_start cursor) move (cursor_place cursor) (cursor_place moved) answer
      → MatchOption answer (after ≡ waiting_of opened) (λ e. after ≡ waiting_of opened ++ cursor_view moved ∷ [])
      → Opens bucket move (cursors_of old) after answer
  opens move answer after moves left = record {
    moved = cursor_view moved;
    file = file ∙ ap (λ (v : CursorView). v.checked) same.1;
    start = start ∙ ap (λ (v : CursorView). v.start) same.1;
    moves = subst (λ (v : CursorView). Moves (entries_of v.checked) v.start move v.place (cursor_place moved) answer) same.1 moves;
    is = subst (λ (cs : List CursorView). MatchOption answer (after ≡ cs) (λ e. after ≡ cs ++ cursor_view moved ∷ [])) same.0 left;
  }

-- it is there
pub some_open : (old opened : OpenBuckets) (bucket : Bucket) → cursors_of opened ≡ cursors_of old ++ fresh_view bucket ∷ [] → opened.innermost ≡ None
    → ⊥
some_open old opened bucket cursors none =
    some_innermost opened.checked opened.waiting.items opened.positions.items opened.innermost opened.kept
    (λ empty. not_nil (cursors_of old) (fresh_view bucket) (sym cursors ∙ empty)) none

-- before the first call the next entry is the first one
next_first : (Entry : Start → LeafElement → Type 0) (bucket : Start) (place : Place) (answer : Option LeafElement)
    → Moves Entry bucket next_move Fresh place answer
    → Moves Entry bucket (λ entries place. first_move entries) Fresh place answer
next_first Entry bucket place answer moves h are = grind arith

pub enters : (bucket : Bucket) (old new : List CursorView) (answer : Option LeafElement) → Opens bucket next_move old new answer
    → Opens bucket (λ entries place. first_move entries) old new answer
enters bucket old new answer opens = search (rules, next_first)
