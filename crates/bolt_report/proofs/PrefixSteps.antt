-- A cursor goes along the entries that begin with given bytes: what it has gone over, and what is left.
-- Rests on that a bucket's entries in order exist, and are one.
use Rattle.std.proofs.Common.{◌≡◌, ◌∙◌, ◌<◌, inl, inr, ◌+◌, ℕ, zero, suc, Bool, true, false, List, [], ◌∷◌, Option, Some, None, Result, Ok, Err}
use Rattle.std.proofs.Common.{cond, drop, length, nat_lt, refl, slice_get, sym, ap, subst, arith, add-one}
use Rattle.std.proofs.lemmas.Bool.{ltb-false}
use Rattle.bolt_report.proofs.Words.{bytes_of, cond-true, Contains, contains_head, contains_tail, cursor_checked, cursor_start, drop_all, drop_next}
use Rattle.bolt_report.proofs.Words.{entries_left, entry_cmp, entry_view, EntryView, Form, Key, key_lt, LeafElement, least_from, meta_of, On, Past}
use Rattle.bolt_report.proofs.Words.{Place, ReportFault, Rises, same_Some, with_prefix, ∥∥₁_elim}
use Rattle.bolt_report.proofs.PrefixLemmas.{after_least, from_least, key_begins, none_later}
use Rattle.std.specs.Option.{option_map}
use Rattle.std.specs.Prelude.{⊤, IfErr, IsErrAnd}
use Rattle.bolt_tree.specs.{BucketViews.AreEntriesOf, BucketViews.BucketView, CursorBounds.OpensByNext, CursorBounds.OpensSeek, OpeningCounts.IsGap}
use Rattle.bolt_tree.specs.{OpeningCounts.IsSeekCount, OpeningCounts.sum_to}
use Rattle.bolt_tree.specs.{Places.next_move, Places.nothing_at, Places.move_onto, Places.place_in, Places.seek_move, declared.cursor.Cursor.Cursor}
use Rattle.bolt_check.specs.Counts.{counted}
use Rattle.bolt_tree.proofs.Exports.{none_past, TheEntries, the_one, counted_more, entries_at}
use Rattle.bolt_text.specs.ReportEndings.{FailsByWritingJson}

-- ---- the entries of a cursor's bucket

pub cursor_entries : (cursor : Cursor) → TheEntries (cursor_checked cursor) (cursor_start cursor)
unfolding cursor_checked cursor_start
cursor_entries cursor =
    let checked = cursor_checked cursor in
    let start = cursor_start cursor in
    ∥∥₁_elim cursor.resting (the_one checked start) (λ resting. ∥∥₁_elim resting.stack (the_one checked start) (λ (sound, stack).
    let (entries, are) = entries_at (bytes_of checked) (meta_of checked) sound.trees start sound.start in
    (entries, ∣ are ∣₁)))

-- ---- where it stands

-- on entry n, which it shows; or there is no entry n
abbrev pub StandsAt : List LeafElement → ℕ → Place → Option EntryView → Type 0
StandsAt entries n place None = drop n entries ≡ []
StandsAt entries n place (Some v) = (e : LeafElement) × (v ≡ entry_view e) × (place ≡ On n) × (drop n entries ≡ e ∷ drop (suc n) entries)

shows_by : (entries : List LeafElement) (n : ℕ) (place : Place) (x : Option EntryView) (o : Option LeafElement) → slice_get entries n ≡ o
    → place ≡ On n → x ≡ option_map entry_view o
    → StandsAt entries n place x
shows_by entries n place None None at on is = drop_all n entries (none_past entries n (sym at))
shows_by entries n place None (Some e) at on is = cc
shows_by entries n place (Some v) None at on is = cc
shows_by entries n place (Some v) (Some e) at on is =
    (e, same_Some v (entry_view e) is, on, drop_next entries n e at ∙ ap (λ (k : ℕ). e ∷ drop k entries) (add-one n))

stands_by : (entries : List LeafElement) (n : ℕ) (place other : Place) (x : Option EntryView) (b : Bool) → nat_lt n (length entries) ≡ b
    → place ≡ (cond b (move_onto entries n) (nothing_at other)).place → x ≡ option_map entry_view (cond b (move_onto entries n) (nothing_at other)).answer
    → StandsAt entries n place x
stands_by entries n place other x true t p a = shows_by entries n place x (slice_get entries n) refl p a
stands_by entries n place other None false t p a = drop_all n entries (ltb-false n (length entries) t)
stands_by entries n place other (Some v) false t p a = cc

pub sought : (prefix : Key) (entries : List LeafElement) (place : Place) (x : Option EntryView)
    → (place_in entries place ≡ (seek_move prefix entries).place) × (x ≡ option_map entry_view (seek_move prefix entries).answer)
    → StandsAt entries (least_from prefix entries) place x
sought prefix [] place None (p, a) = refl
sought prefix [] place (Some v) (p, a) = cc
sought prefix (e ∷ entries) place x (p, a) =
    stands_by (e ∷ entries) (least_from prefix (e ∷ entries)) place Past x (nat_lt (least_from prefix (e ∷ entries)) (length (e ∷ entries))) refl p a

pub moved : (entries : List LeafElement) (n : ℕ) (before place : Place) (x : Option EntryView) → before ≡ On n
    → (place_in entries place ≡ (next_move entries (place_in entries before)).place)
    × (x ≡ option_map entry_view (next_move entries (place_in entries before)).answer)
    → StandsAt entries (suc n) place x
moved [] n before place None on (p, a) = refl
moved [] n before place (Some v) on (p, a) = cc
moved (e ∷ entries) n before place x on (p, a) =
    stands_by (e ∷ entries) (suc n) place (On n) x (nat_lt (suc n) (length (e ∷ entries))) refl
    (p ∙ ap (λ (q : Place). (next_move (e ∷ entries) q).place) on) (a ∙ ap (λ (q : Place). option_map entry_view (next_move (e ∷ entries) q).answer) on)

-- ---- how many entries are left

abbrev pub number_of : Option EntryView → ℕ
number_of None = 0
number_of (Some v) = 1

pub fewer_shown : (entries : List LeafElement) (n : ℕ) (before after : Place) (x : Option EntryView) → before ≡ On n
    → StandsAt entries (suc n) after x → (x ≡ None → after ≡ before)
    → length (entries_left entries after) + number_of x < length (entries_left entries before) + 1
fewer_shown entries n before after None on none stays =
    let same = ap (λ (q : Place). length (entries_left entries q)) (stays refl) in omega (arith, same)
fewer_shown entries n before after (Some v) on (e, shown, at, first) stays = grind arith

-- ---- what it has gone over

abbrev gap_at : Key → List LeafElement → (ℕ → ℕ) → ℕ → ℕ
gap_at prefix entries gap i = gap (suc (least_from prefix entries + i))

abbrev Opened : BucketView → ℕ → Key → List LeafElement → ℕ → ℕ → Type 0
Opened b first prefix entries opened count =
    (seek : ℕ) (gap : ℕ → ℕ) → IsSeekCount b.file b.meta b.start entries prefix seek → ((i : ℕ) → IsGap b.file b.meta b.start entries i (gap i))
    → opened ≡ counted first (seek + sum_to (gap_at prefix entries gap) count)

-- Of the entries that begin so it has gone over as many as `done`, and opened the pages for them; it stands on entry n after these, which is
-- the first of those that may begin so.
pub record Stage (b : BucketView) (first : ℕ) (prefix : Key) (entries : List LeafElement) (opened : ℕ) (place : Place) (x : Option EntryView)
    (n done : ℕ) : Type 0 where
  pub at : n ≡ least_from prefix entries + done
  pub stands : StandsAt entries n place x
  pub whole : length (with_prefix prefix entries) ≡ done + length (with_prefix prefix (drop n entries))
  pub rises : Rises entry_cmp (drop n entries)
  pub after : (f : LeafElement) → Contains (drop n entries) f → key_lt f.key prefix ≡ false
  pub opens : Opened b first prefix entries opened done

rises_later : (n : ℕ) (entries : List LeafElement) → Rises entry_cmp entries → Rises entry_cmp (drop n entries)
rises_later zero entries rises = rises
rises_later (suc n) [] rises = rises
rises_later (suc n) (e ∷ entries) rises = rises_later n entries rises.1

-- after the seek
pub stage_sought : (b : BucketView) (first : ℕ) (prefix : Key) (entries : List LeafElement) (opened : ℕ) (place : Place) (x : Option EntryView)
    → AreEntriesOf b entries
    → StandsAt entries (least_from prefix entries) place x → OpensSeek b prefix first opened
    → Stage b first prefix entries opened place x (least_from prefix entries) 0
stage_sought b first prefix entries opened place x are stands seeks = record {
  at = omega arith;
  stands = stands;
  whole = let same = ap length (from_least prefix entries) in omega (arith, same);
  rises = rises_later (least_from prefix entries) entries are.rises;
  after = after_least prefix entries are.rises;
  opens = λ seek gap is gaps. seeks entries seek are is ∙ ap (counted first) (omega arith);
}

module _ (b : BucketView) (first : ℕ) (prefix : Key) (entries : List LeafElement) (opened : ℕ) (place : Place) (n done : ℕ) where
  -- the next of those that begin so is the first of them,
  pub next_first : (v : EntryView) (stage : Stage b first prefix entries opened place (Some v) n done) → key_begins v.key prefix ≡ true
      → with_prefix prefix (drop n entries) ≡ stage.stands.0 ∷ with_prefix prefix (drop (suc n) entries)
  next_first v stage starts = grind (arith, cond-true)

  -- and is gone over
  pub stage_next : (v : EntryView) → Stage b first prefix entries opened place (Some v) n done → key_begins v.key prefix ≡ true
      → (opened2 : ℕ) (place2 : Place) (x2 : Option EntryView) → AreEntriesOf b entries
      → (place_in entries place2 ≡ (next_move entries (place_in entries place)).place)
      × (x2 ≡ option_map entry_view (next_move entries (place_in entries place)).answer)
      → OpensByNext b place opened opened2 → Stage b first prefix entries opened2 place2 x2 (suc n) (suc done)
  stage_next v stage starts opened2 place2 x2 are moves opens =
      let (e, shown, on, rest) = stage.stands in
      let rises : Rises entry_cmp (e ∷ drop (suc n) entries) = rw rest at stage.rises in
      record {
        at = let old = stage.at in omega (arith, old);
        stands = moved entries n place place2 x2 on moves;
        whole = let next = ap length (next_first v stage starts) in let old = stage.whole in omega (arith, next, old);
        rises = rises.1;
        after = λ f more. stage.after f (subst (λ (l : List LeafElement). Contains l f) (sym rest) (contains_tail e f (drop (suc n) entries) more));
        opens = λ seek gap is gaps.
            let step : opened2 ≡ counted opened (gap (suc n)) =
            subst (λ (p : Place). OpensByNext b p opened opened2) on opens entries (gap (suc n)) are (gaps (suc n)) in
            let before = sum_to (gap_at prefix entries gap) done in
            let sum : before + gap (suc n) ≡ sum_to (gap_at prefix entries gap) (suc done) = ap (λ (k : ℕ). before + gap (suc k)) stage.at in
            step ∙ ap (λ (k : ℕ). counted k (gap (suc n))) (stage.opens seek gap is gaps) ∙ counted_more first (seek + before) (gap (suc n))
            ∙ ap (counted first) (omega (arith, sum));
      }

  -- no other begins so, if none is left,
  pub none_shown : Stage b first prefix entries opened place None n done → with_prefix prefix (drop n entries) ≡ []
  none_shown stage = ap (with_prefix prefix) stage.stands

  -- or if the next doesn't
  pub other_shown : (v : EntryView) → Stage b first prefix entries opened place (Some v) n done → key_begins v.key prefix ≡ false
      → with_prefix prefix (drop n entries) ≡ []
  other_shown v stage differs = grind (arith, none_later, contains_head)

  -- so the pages were opened for all
  pub all_opened : (x : Option EntryView) → Stage b first prefix entries opened place x n done → with_prefix prefix (drop n entries) ≡ []
      → Opened b first prefix entries opened (length (with_prefix prefix entries))
  all_opened x stage none = grind arith

-- ---- a fault that is handed on

pub fault_handed_on : (a b : Form) (fault : ReportFault) (result : Result ⊤ ReportFault) → a ≡ b → IsErrAnd result (λ f. f ≡ fault)
    → FailsByWritingJson a fault → IfErr result (FailsByWritingJson b)
fault_handed_on a b fault (Ok x) same is either = tt
fault_handed_on a b fault (Err f) same is (inl sink) = inl (is ∙ sink)
fault_handed_on a b fault (Err f) same is (inr (full, json)) = inr (is ∙ full, sym same ∙ json)
