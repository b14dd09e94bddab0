-- One turn of a climb, in what is known of open buckets: only that it is so.
use Rattle.std.proofs.Common.{◌≡◌, ◌∙◌, ◌+◌, ◌-◌, ℕ, suc, List, [], ◌∷◌, ◌++◌, take, Option, Some, None, MatchOption, refl, sym, ap, subst, arith}
use Rattle.std.proofs.Common.{vec_len, Bor}
use Rattle.bolt_lemmas.proofs.Exports.{filter_none}
use Rattle.bolt_tree.proofs.Words.{AreOpen, Checked, Cursor, CursorView, HasEntries, IsInPlace, LeafElement, Lists, Member, Moves, Names, Path, Start}
use Rattle.bolt_tree.proofs.Words.{beyond, cursor_view, cursors_of, entries_of, innermost_views, is_beyond, item_of, next_move, open_path}
use Rattle.bolt_tree.proofs.Words.{option_to_list, path_of, props, rest_after, root_start, waiting_of, ∥∥₁_elim, ∥∥₁_map}
use Rattle.bolt_tree.proofs.KeptLemmas.{none_open}
use Rattle.bolt_tree.proofs.OpenSteps.{Top, path_popped, next_ended, next_entry, next_given, next_open, open_pop}
use Rattle.bolt_tree.specs.declared.open_buckets.OpenBuckets.{OpenBuckets}

-- the last cursor is looked at by itself, and the last key was taken off
pub record Popped (checked : Checked) (cursors : List CursorView) (cursor : CursorView) (old new : Path) : Type 0 where
  pub all : HasEntries (entries_of checked) (root_start checked)
  pub top : Top checked [] cursors cursor old
  pub left : new ≡ top.front

module _ (buckets : OpenBuckets) (cursor : Cursor) (is : buckets.innermost ≡ Some cursor) (placed : IsInPlace buckets) (new : List (Bor (List ℕ))) (len : ℕ)
    (taken : Option (Bor (List ℕ)))
    (items : buckets.path.items ≡ new ++ option_to_list taken) (rest : new ≡ take (vec_len buckets.path - 1) buckets.path.items)
    (cases : MatchOption taken ((vec_len buckets.path ≡ 0) × (len ≡ 0)) (λ _. len + 1 ≡ vec_len buckets.path)) where
  more_or_less : (o : Option (Bor (List ℕ))) (n m : ℕ) → MatchOption o ((n ≡ 0) × (m ≡ 0)) (λ _. m + 1 ≡ n)
      → MatchOption o ((n ≡ 0) × (m ≡ 0)) (λ _. suc m ≡ n)
  more_or_less o n m h = grind arith

  of : HasEntries (entries_of buckets.checked) (root_start buckets.checked) × AreOpen buckets.checked [] (cursors_of buckets) (open_path buckets)
      → Popped buckets.checked (waiting_of buckets) (cursor_view cursor) (open_path buckets) (path_of new) × (suc len ≡ vec_len buckets.path)
  of (all, are) =
      let top = open_pop buckets.checked [] (waiting_of buckets) (cursor_view cursor) (open_path buckets)
      (subst (λ (o : Option Cursor). AreOpen buckets.checked [] (waiting_of buckets ++ innermost_views o) (open_path buckets)) is are) in
      let both = path_popped buckets.path.items new taken (vec_len buckets.path) len top.front top.key top.split items rest
      (more_or_less taken (vec_len buckets.path) len cases) in
      (record { all = all; top = top; left = both.0 }, both.1)

  pub popped : ∥ Popped buckets.checked (waiting_of buckets) (cursor_view cursor) (open_path buckets) (path_of new) ∥₁
  popped = ∥∥₁_map placed (λ t. (of t).0)

  pub popped_len : suc len ≡ vec_len buckets.path
  popped_len = ∥∥₁_elim placed (hlevel props) (λ t. (of t).1)

module _ (checked : Checked) (cursors : List CursorView) (cursor moved : CursorView) (old new : Path) (known : ∥ Popped checked cursors cursor old new ∥₁) where
  abbrev MovesOn : Option LeafElement → Type 0
  MovesOn o = Moves (entries_of cursor.checked) cursor.start next_move cursor.place moved.place o

  pub stays : (after : List CursorView) → after ≡ cursors → ∥ HasEntries (entries_of checked) (root_start checked) × AreOpen checked [] after new ∥₁
  stays after rest = ∥∥₁_map known (λ k.
      let below = subst (λ (keys : Path). AreOpen checked [] cursors keys) (sym k.left) k.top.below in
      (k.all, subst (λ (cs : List CursorView). AreOpen checked [] cs new) (sym rest) below))

  pub ends : MovesOn None → (listing : List Member) → Lists (entries_of checked) (root_start checked) listing
      → beyond old listing ≡ beyond new listing
  ends moves listing lists =
      ∥∥₁_elim known (hlevel props)
      (λ k. next_ended checked k.all cursors cursor moved old k.top moves listing lists ∙ ap (λ (keys : Path). beyond keys listing) (sym k.left))

  pub opens : (e : LeafElement) (after : List CursorView) (keys : Path) → moved.checked ≡ cursor.checked → moved.start ≡ cursor.start
      → MovesOn (Some e)
      → after ≡ cursors ++ moved ∷ [] → keys ≡ new ++ e.key ∷ [] → ∥ HasEntries (entries_of checked) (root_start checked) × AreOpen checked [] after keys ∥₁
  opens e after keys file start moves put path =
      ∥∥₁_map known (λ k.
      let at : keys ≡ k.top.front ++ e.key ∷ [] = path ∙ ap (λ (p : Path). p ++ e.key ∷ []) k.left in (
        k.all,
        subst (λ (cs : List CursorView). AreOpen checked [] cs keys) (sym put)
            (subst (λ (ks : Path). AreOpen checked [] (cursors ++ moved ∷ []) ks) (sym at)
            (next_open checked k.all cursors cursor moved old k.top e file start moves)),
      ))

  pub leads_on : (e : LeafElement) (keys : Path) → MovesOn (Some e) → keys ≡ new ++ e.key ∷ []
      → ∥ ((path : Path) × (bucket : Start) × (keys ≡ path ++ e.key ∷ []) × Names (entries_of checked) (root_start checked) path bucket
      × entries_of checked bucket e) ∥₁
  leads_on e keys moves path =
      ∥∥₁_map known (λ k. (
        k.top.front,
        cursor.start,
        path ∙ ap (λ (p : Path). p ++ e.key ∷ []) k.left,
        k.top.names,
        next_entry checked k.all cursors cursor moved old k.top e moves,
      ))

  pub gives : (e : LeafElement) (keys : Path) → MovesOn (Some e) → keys ≡ new ++ e.key ∷ [] → (listing : List Member)
      → Lists (entries_of checked) (root_start checked) listing
      → beyond old listing ≡ (keys, item_of e) ∷ rest_after keys listing
  gives e keys moves path listing lists =
      ∥∥₁_elim known (hlevel props) (λ k.
      let at : keys ≡ k.top.front ++ e.key ∷ [] = path ∙ ap (λ (p : Path). p ++ e.key ∷ []) k.left in
      subst (λ (ks : Path). beyond old listing ≡ (ks, item_of e) ∷ rest_after ks listing) (sym at)
      (next_given checked k.all cursors cursor moved old k.top e moves listing lists))

-- without an open bucket the path is empty
long : (checked : Checked) (keys : Path) → AreOpen checked [] [] keys → keys ≡ []
long checked keys are = grind arith

pub all_closed : (buckets : OpenBuckets) → IsInPlace buckets → buckets.innermost ≡ None → open_path buckets ≡ []
all_closed buckets placed none =
    ∥∥₁_elim (none_open buckets.checked buckets.waiting.items buckets.positions.items buckets.innermost buckets.kept none) (hlevel props) (λ empty.
    ∥∥₁_elim placed (hlevel props)
    (λ t. long buckets.checked (open_path buckets) (subst (λ (cs : List CursorView). AreOpen buckets.checked [] cs (open_path buckets)) empty t.1)))

pub none_beyond : (keys : Path) (listing : List Member) → keys ≡ [] → beyond keys listing ≡ []
none_beyond keys listing none = ap (λ (p : Path). beyond p listing) none ∙ filter_none (λ m. is_beyond [] m.0) listing (λ m h. refl)

pub listed_in : (a b : Checked) (listing : List Member) → a ≡ b → Lists (entries_of b) (root_start b) listing
    → Lists (entries_of a) (root_start a) listing
listed_in a b listing same lists = subst (λ (file : Checked). Lists (entries_of file) (root_start file) listing) (sym same) lists
