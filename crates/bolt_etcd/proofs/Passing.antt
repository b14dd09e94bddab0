-- A pass over the entries of a bucket: each step takes the first of those ahead.
use Rattle.std.proofs.Common.{◌≡◌, ◌∙◌, ◌<◌, ◌+◌, List, [], ◌∷◌, cond, length, Option, Some, None, refl, sym, ap, arith}
use Rattle.std.proofs.{Math.Logic.∥∥₁_elim, Math.Logic.∥∥₁_prop, lemmas.Option.same_Some}
use Rattle.std.specs.{List.cons_option, Option.is_some, Option.option_map, Option.option_to_list}
use Rattle.bolt_check.specs.{CheckedFiles.bytes_of, CheckedFiles.meta_of, Keys.Key}
use Rattle.bolt_format.specs.Elements.{LeafElement}
use Rattle.bolt_tree.proofs.Exports.{comes_from, TakesFirst, next_takes, takes, tour_entries}
use Rattle.bolt_tree.specs.{BucketViews.entries_of, Cursors.cursor_checked, Cursors.cursor_start, Entries.AreEntries, Entries.EntryView}
use Rattle.bolt_tree.specs.{Entries.entry_view}
use Rattle.bolt_tree.specs.{EntriesLeft.entries_left, FileTrees.file_entries, Places.Past, Places.Place, Places.least_from, Places.next_move}
use Rattle.bolt_tree.specs.{Places.place_in, Places.seek_move}
use Rattle.bolt_tree.specs.{declared.cursor.Cursor.Cursor}
use Rattle.bolt_etcd.specs.{Wire.UnreadEntries.UnreadView, Wire.UnreadEntries.unread_entry_of, Private.Passes.ShowsFirst, Wire.Revisions.RevisionView}
use Rattle.bolt_etcd.specs.{Wire.Revisions.revision_of, Store.Stores.entries_from, Store.Stores.unread_elements, Store.Stores.revisions}
use Rattle.bolt_etcd.proofs.UnreadCounts.{not_unread, one_more}

shows : (old new : List LeafElement) (x : Option EntryView) (o : Option LeafElement) → x ≡ option_map entry_view o → TakesFirst old new o
    → (x ≡ None → new ≡ []) → ShowsFirst old new x
shows old new x o is taken none = grind (arith, same_Some)

nothing_left : (entries : List LeafElement) (before after : Place) (x : Option EntryView) (o : Option LeafElement) → x ≡ option_map entry_view o
    → TakesFirst (entries_left entries before) (entries_left entries after) o → (x ≡ None → after ≡ before) → x ≡ None → entries_left entries after ≡ []
nothing_left entries before after x o is taken stays none = grind arith

-- after `next`
pub next_shows : (entries : List LeafElement) (before after : Place) (x : Option EntryView)
    → (place_in entries after ≡ (next_move entries (place_in entries before)).place)
    × (x ≡ option_map entry_view (next_move entries (place_in entries before)).answer)
    → (x ≡ None → after ≡ before) → ShowsFirst (entries_left entries before) (entries_left entries after) x
next_shows entries before after x (p, a) stays =
    let taken = next_takes entries before after (next_move entries (place_in entries before)).answer (p, refl) in
    shows _ _ x _ a taken (nothing_left entries before after x _ a taken stays)

-- after `seek`
pub seek_shows : (key : Key) (entries : List LeafElement) (after : Place) (x : Option EntryView)
    → (place_in entries after ≡ (seek_move key entries).place) × (x ≡ option_map entry_view (seek_move key entries).answer)
    → (x ≡ None → after ≡ Past) → ShowsFirst (entries_from key entries) (entries_left entries after) x
seek_shows key entries after x (p, a) past =
    shows _ _ x _ a (takes entries (least_from key entries) after _ (comes_from key entries after (seek_move key entries).answer (p, refl)))
    (λ none. ap (entries_left entries) (past none))

-- ---- what is left of a pass

pub are_entries : (cursor : Cursor) → ∥ AreEntries (entries_of (cursor_checked cursor)) (cursor_start cursor)
    (file_entries (bytes_of (cursor_checked cursor)) (meta_of (cursor_checked cursor)) (cursor_start cursor)) ∥₁
unfolding cursor_checked cursor_start
are_entries cursor =
    let checked = cursor_checked cursor in
    ∥∥₁_elim cursor.resting ∥∥₁_prop (λ resting. ∥∥₁_elim resting.stack ∥∥₁_prop (λ (sound, stack).
    ∣ tour_entries (bytes_of checked) (meta_of checked) sound.trees (cursor_start cursor) sound.start ∣₁))

-- ---- revisions among those ahead

passed : (o : Option RevisionView) (r : RevisionView) (rest : List RevisionView) → o ≡ Some r → cons_option o rest ≡ r ∷ rest
passed o r rest is = rw is refl

-- the first of those ahead is a revision
pub gives : (old new : List LeafElement) (v : EntryView) (r : RevisionView) → ShowsFirst old new (Some v) → revision_of v ≡ Some r
    → revisions old ≡ r ∷ revisions new
gives old new v r (e, shown, first) is = ap revisions first ∙ passed (revision_of (entry_view e)) r (revisions new) (sym (ap revision_of shown) ∙ is)

-- or it isn't
pub passes : (old new : List LeafElement) (v : EntryView) → ShowsFirst old new (Some v) → revision_of v ≡ None → revisions old ≡ revisions new
passes old new v (e, shown, first) is = ap revisions first ∙ ap (λ (o : Option RevisionView). cons_option o (revisions new)) (sym (ap revision_of shown) ∙ is)

unread_if : (o x : Option UnreadView) (e : LeafElement) (rest : List LeafElement) → o ≡ x
    → cond (is_some o) (e ∷ rest) rest ≡ cond (is_some x) (e ∷ rest) rest
unread_if o x e rest is = ap (λ (z : Option UnreadView). cond (is_some z) (e ∷ rest) rest) is

pub counts_none : (old new : List LeafElement) (v : EntryView) (r : RevisionView) → ShowsFirst old new (Some v) → revision_of v ≡ Some r
    → unread_elements old ≡ unread_elements new
counts_none old new v r (e, shown, first) is = ap unread_elements first ∙ unread_if _ _ e (unread_elements new) (sym (ap unread_entry_of shown) ∙ not_unread v r is)

pub counts_one : (old new : List LeafElement) (v : EntryView) → ShowsFirst old new (Some v)
    → length (unread_elements old) ≡ length (option_to_list (unread_entry_of v)) + length (unread_elements new)
counts_one old new v (e, shown, first) =
    ap length (ap unread_elements first ∙ unread_if (unread_entry_of (entry_view e)) (unread_entry_of v) e (unread_elements new) (sym (ap unread_entry_of shown)))
    ∙ one_more e (unread_entry_of v) (unread_elements new)

pub fewer : (old new : List LeafElement) (v : EntryView) → ShowsFirst old new (Some v) → length new < length old
fewer old new v (e, shown, first) = let n = ap length first in omega (arith, n)
