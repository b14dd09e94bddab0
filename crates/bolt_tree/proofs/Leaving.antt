-- A loop over a cursor: each call removes the first of the entries that are left, so there are fewer left then.
-- Rests on that the entries of a bucket in order exist, and are one.
use Rattle.std.proofs.Common.{◌≡◌, ◌<◌, ℕ, suc, List, [], ◌∷◌, length, drop, nat_lt, Option, Some, None, refl, ap, subst, arith}
use Rattle.bolt_tree.proofs.Words.{AreEntries, Bucket, Checked, EntryView, Fresh, LeafElement, On, Past, Place, ShowsMove, Start, bucket_checked}
use Rattle.bolt_tree.proofs.Words.{bucket_start, bytes_of, drop_all, drop_at, entries_of, entry_view, meta_of, next_move, option_map, place_in, props}
use Rattle.bolt_tree.proofs.Words.{∥∥₁_elim, ∥∥₁_prop}
use Rattle.bolt_tree.proofs.{CursorMoves.ComesTo, CursorMoves.by_length, CursorMoves.comes_first, Looking.own_entries, RisingEntries.entries_once}
use mathlib.Core.HLevel.{Σ_prop_path}
use Rattle.bolt_tree.specs.{EntriesLeft.ForEntries, EntriesLeft.entries_left, Lookups.IsBucketOf, Lookups.IsBucketOn, Places.entry_at}
use Rattle.bolt_tree.specs.{ShownEntries.shown_entry, declared.entry.Entry.Entry}

-- the entries of a bucket in order, taken out of what is only known to be
abbrev pub TheEntries : Checked → Start → Type 0
TheEntries checked start = (entries : List LeafElement) × ∥ AreEntries (entries_of checked) start entries ∥₁

pub the_one : (checked : Checked) (start : Start) → IsProp (TheEntries checked start)
the_one checked start = λ a b.
    Σ_prop_path (λ l. ∥∥₁_prop)
    (∥∥₁_elim a.1 (hlevel props) (λ h. ∥∥₁_elim b.1 (hlevel props) (λ k. entries_once (bytes_of checked) (meta_of checked) start a.0 b.0 h k)))

pub the_entries : (bucket : Bucket) → TheEntries (bucket_checked bucket) (bucket_start bucket)
unfolding bucket_checked bucket_start
the_entries bucket =
    ∥∥₁_elim (own_entries (bucket_checked bucket) (bucket_start bucket) bucket.begins) (the_one (bucket_checked bucket) (bucket_start bucket))
    (λ (entries, are). (entries, ∣ are ∣₁))

-- the first of what was left is answered; or nothing was left
abbrev pub TakesFirst : List LeafElement → List LeafElement → Option LeafElement → Type 0
TakesFirst old new None = old ≡ []
TakesFirst old new (Some e) = old ≡ e ∷ new

none_left : (place : Place) → entries_left [] place ≡ []
none_left place = grind arith

pub takes : (entries : List LeafElement) (n : ℕ) (place : Place) (o : Option LeafElement) → ComesTo entries n place o
    → TakesFirst (drop n entries) (entries_left entries place) o
takes entries n place o past = grind (arith, drop_all, drop_at)

pub next_takes : (entries : List LeafElement) (before after : Place) (o : Option LeafElement)
    → (place_in entries after ≡ (next_move entries (place_in entries before)).place) × (o ≡ (next_move entries (place_in entries before)).answer)
    → TakesFirst (entries_left entries before) (entries_left entries after) o
next_takes [] before after None (p, a) = none_left before
next_takes (x ∷ entries) Fresh after o moved = takes (x ∷ entries) 0 after o (comes_first (x ∷ entries) after o moved)
next_takes (x ∷ entries) (On i) after o (p, a) =
    takes (x ∷ entries) (suc i) after o (by_length (x ∷ entries) (suc i) (On i) after o (nat_lt (suc i) (length (x ∷ entries))) refl p a)
next_takes (x ∷ entries) Past after None (p, a) = refl
next_takes entries before after o moved = absurd (cc)

pub nothing_shown : (o : Option Entry) → option_map shown_entry o ≡ None → o ≡ None
nothing_shown o is = grind arith

-- the same of what is answered: what the first of what was left shows
abbrev pub ShowsFirst : List LeafElement → List LeafElement → Option EntryView → Type 0
ShowsFirst old new None = old ≡ []
ShowsFirst old new (Some x) = (e : LeafElement) × (x ≡ entry_view e) × (old ≡ e ∷ new)

shows_first : (old new : List LeafElement) (x : Option EntryView) (o : Option LeafElement) → x ≡ option_map entry_view o → TakesFirst old new o
    → ShowsFirst old new x
shows_first old new x o a taken = grind arith

pub next_shows : (a b : Checked) (s t : Start) (before after : Place) (x : Option EntryView) → a ≡ b → s ≡ t
    → ShowsMove (entries_of a) s next_move before after x
    → ForEntries b t (λ entries. ShowsFirst (entries_left entries before) (entries_left entries after) x)
next_shows a b s t before after x file start moves entries are =
    let here =
    subst (λ (f : Checked). ShowsMove (entries_of f) t next_move before after x) file
    (subst (λ (q : Start). ShowsMove (entries_of a) q next_move before after x) start moves) in
    let (p, shown) = here entries are in
    shows_first (entries_left entries before) (entries_left entries after) x (next_move entries (place_in entries before)).answer shown
    (next_takes entries before after (next_move entries (place_in entries before)).answer (p, refl))

-- ---- where a cursor is then: on what was returned

next_at : (entries : List LeafElement) (before after : Place) (e : LeafElement)
    → (place_in entries after ≡ (next_move entries (place_in entries before)).place) × (Some e ≡ (next_move entries (place_in entries before)).answer)
    → entry_at entries after ≡ Some e
next_at entries before after e moved = grind arith

-- the first of what was left is shown, and the cursor is on it
abbrev pub StandsOnFirst : List LeafElement → (before after : Place) → EntryView → Type 0
StandsOnFirst entries before after x =
    (e : LeafElement) × (x ≡ entry_view e) × (entries_left entries before ≡ e ∷ entries_left entries after) × (entry_at entries after ≡ Some e)

stands_by : (entries : List LeafElement) (before after : Place) (x : EntryView) (o : Option LeafElement) → Some x ≡ option_map entry_view o
    → (place_in entries after ≡ (next_move entries (place_in entries before)).place) × (o ≡ (next_move entries (place_in entries before)).answer)
    → StandsOnFirst entries before after x
stands_by entries before after x None shown moved = absurd (let c : Some x ≡ None = shown in cc)
stands_by entries before after x (Some e) shown moved =
    (e, (let c : Some x ≡ Some (entry_view e) = shown in cc), next_takes entries before after (Some e) moved, next_at entries before after e moved)

pub next_stands : (a b : Checked) (s t : Start) (before after : Place) (x : EntryView) → a ≡ b → s ≡ t
    → ShowsMove (entries_of a) s next_move before after (Some x)
    → ForEntries b t (λ entries. StandsOnFirst entries before after x)
next_stands a b s t before after x file start moves entries are =
    let here =
    subst (λ (f : Checked). ShowsMove (entries_of f) t next_move before after (Some x)) file
    (subst (λ (q : Start). ShowsMove (entries_of a) q next_move before after (Some x)) start moves) in
    let (p, shown) = here entries are in
    stands_by entries before after x (next_move entries (place_in entries before)).answer shown (p, refl)

-- and so fewer are left
pub fewer_left : (bucket : Bucket) (file : Checked) (start : Start) (before after : Place) (x : EntryView) → file ≡ bucket_checked bucket
    → start ≡ bucket_start bucket
    → ShowsMove (entries_of file) start next_move before after (Some x)
    → length (entries_left (the_entries bucket).0 after) < length (entries_left (the_entries bucket).0 before)
fewer_left bucket file start before after x same at moves =
    ∥∥₁_elim (the_entries bucket).1 (hlevel props) (λ are.
    let (e, shown, taken) =
    next_shows file (bucket_checked bucket) start (bucket_start bucket) before after (Some x) same at moves (the_entries bucket).0 are in
    let n = ap length taken in omega (arith, n))

-- the bucket that a cursor is on
pub stands_on : (Entry : Start → LeafElement → Type 0) (from to : Start) (place : Place) (found : Option Bucket) → from ≡ to
    → IsBucketOn Entry from place found
    → (entries : List LeafElement) → AreEntries Entry to entries → (e : LeafElement) → entry_at entries place ≡ Some e → IsBucketOf (Some e) found
stands_on Entry from to place found same here entries are e at = grind arith
