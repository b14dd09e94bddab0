-- What a seek says of a bucket's entry with a key.
use Rattle.std.proofs.Common.{rules, ◌≡◌, ◌∙◌, true, false, List, Option, Some, None, refl, sym, ap, subst}
use Rattle.bolt_tree.proofs.Words.{AreEntries, Checked, Cursor, HasStart, Key, LeafElement, Moves, Start, bytes_of, cursor_checked, cursor_place}
use Rattle.bolt_tree.proofs.Words.{cursor_start, entries_of, is_lt, key_cmp, least_from, meta_of, props, seek_move, start_of, with_trees, ∥∥₁_elim}
use Rattle.bolt_tree.proofs.Words.{∥∥₁_map, ∥∥₁_prop}
use Rattle.bolt_tree.proofs.{BucketWays.starts_below, Coming.neither, CursorMoves.comes_from, AllEntries.entries_at}
use Rattle.bolt_tree.proofs.{EntryOrder.contains_at, EntryOrder.seek_from, EntryOrder.seek_least, EntryOrder.seek_none, Named.entry_once}
use Rattle.bolt_tree.proofs.{PathOrder.key_same}

not_less_itself : (a b : Key) → a ≡ b → is_lt (key_cmp a b) ≡ false
not_less_itself a b e = rw e (ap is_lt (key_same b))

-- a bucket of the tree has its entries in order
pub own_entries : (checked : Checked) (bucket : Start) → HasStart checked bucket
    → ∥ ((entries : List LeafElement) × AreEntries (entries_of checked) bucket entries) ∥₁
own_entries checked bucket begins =
    with_trees checked (∥ ((entries : List LeafElement) × AreEntries (entries_of checked) bucket entries) ∥₁) ∥∥₁_prop
    (λ trees. ∥∥₁_map begins (λ start. entries_at (bytes_of checked) (meta_of checked) trees bucket start))

module _ (checked : Checked) (bucket : Start) (fresh moved : Cursor) (key : Key)
    (known : ∥ ((entries : List LeafElement) × AreEntries (entries_of checked) bucket entries) ∥₁)
    (file : cursor_checked fresh ≡ checked) (start : cursor_start fresh ≡ bucket) where
  abbrev MovesFrom : Option LeafElement → Type 0
  MovesFrom o =
      Moves (entries_of (cursor_checked fresh)) (cursor_start fresh) (λ entries place. seek_move key entries) (cursor_place fresh) (cursor_place moved) o

  here : (o : Option LeafElement) → MovesFrom o
      → Moves (entries_of checked) bucket (λ entries place. seek_move key entries) (cursor_place fresh) (cursor_place moved) o
  here o moves = search rules

  pub look_none : MovesFrom None → (e : LeafElement) → entries_of checked bucket e → e.key ≡ key → ⊥
  look_none moves e is same =
      ∥∥₁_elim known (hlevel props) (λ (entries, are).
      let long = comes_from key entries (cursor_place moved) None (here None moves entries are) in
      let before = seek_none key entries e long ((are.exact e).1 is) in
      let not_before = not_less_itself e.key key same in cc)

  pub look_greater : (l : LeafElement) → MovesFrom (Some l) → is_lt (key_cmp key l.key) ≡ true → (e : LeafElement) → entries_of checked bucket e
      → e.key ≡ key → ⊥
  look_greater l moves less e is same =
      ∥∥₁_elim known (hlevel props) (λ (entries, are).
      let came = comes_from key entries (cursor_place moved) (Some l) (here (Some l) moves entries are) in
      let least = (seek_least key entries l e are.rises came.1 ((are.exact e).1 is) (not_less_itself e.key key same)).1 in
      let f : is_lt (key_cmp key l.key) ≡ false = subst (λ (k : Key). is_lt (key_cmp k l.key) ≡ false) same least in cc)

  pub look_found : (l : LeafElement) → MovesFrom (Some l) → is_lt (key_cmp key l.key) ≡ false → ∥ entries_of checked bucket l × (l.key ≡ key) ∥₁
  look_found l moves not_less =
      ∥∥₁_map known (λ (entries, are).
      let came = comes_from key entries (cursor_place moved) (Some l) (here (Some l) moves entries are) in (
        (are.exact l).0 (contains_at entries (least_from key entries) l came.1),
        sym (neither key l.key (key_cmp key l.key) refl not_less (seek_from key entries l came.1)),
      ))

-- what is found is the one entry with that key
module _ (checked : Checked) (bucket : Start) (key : Key) (l : LeafElement) (begins : HasStart checked bucket)
    (found : ∥ entries_of checked bucket l × (l.key ≡ key) ∥₁) where
  pub same_kind : (e : LeafElement) → entries_of checked bucket e → e.key ≡ key → e.is_bucket ≡ l.is_bucket
  same_kind e is same =
      ∥∥₁_elim (own_entries checked bucket begins) (hlevel props) (λ (entries, are). ∥∥₁_elim found (hlevel props) (λ (own, at).
      ap (λ (x : LeafElement). x.is_bucket) (entry_once (entries_of checked) bucket entries are e l is own (same ∙ sym at))))

  -- a bucket that is found is one of the tree
  pub begins_inside : l.is_bucket ≡ true → HasStart checked (start_of l.value)
  begins_inside b = ∥∥₁_elim begins ∥∥₁_prop (λ start. ∥∥₁_map found (λ (own, at). starts_below (bytes_of checked) (meta_of checked) bucket l start own b))
