-- Which member of a listing comes next if a bucket is entered, if its cursor moves on, or if it has ended.
-- Rests on the order of paths, and on what a named bucket holds (Named).
use Rattle.std.proofs.Common.{◌≡◌, ◌∙◌, ◌⊎◌, ◌≤◌, inl, inr, Bool, true, false, not, ℕ, suc, List, [], ◌∷◌, ◌++◌, length, filter, Some}
use Rattle.std.proofs.Common.{slice_get, refl, sym, ap, subst, append-nil}
use Rattle.bolt_lemmas.proofs.Exports.{contains_none, filter_first, filter_same, flip_less, greater_part, irreflexive, lt_of}
use Rattle.bolt_tree.proofs.Words.{AreEntries, HasEntries, Holds, Item, Key, LeafElement, Less, Lists, Member, Names, Path, Start}
use Rattle.bolt_tree.proofs.Words.{append_cancel_left, beyond, both_ways, false_from_ne_true, is_beyond, is_lt, item_of, key_cmp, less_of}
use Rattle.bolt_tree.proofs.Words.{path_cmp, rest_after, rest_from}
use Rattle.bolt_tree.proofs.{EntryOrder.contains_at, EntryOrder.first_least, EntryOrder.last_greatest, EntryOrder.next_least, EntryOrder.next_less}
use Rattle.bolt_tree.proofs.{Named.first_of_held, Named.held_below, Named.held_down, Named.held_here}
use Rattle.bolt_tree.proofs.PathOrder.{before_longer, beyond_here, beyond_less, beyond_longer, beyond_or_longer, beyond_push, beyond_up}
use Rattle.bolt_tree.proofs.PathOrder.{path_same, path_total, same_front}
use Rattle.bolt_tree.proofs.Single.{member_total}

pub after_end : (r : Path) → is_lt (path_cmp r []) ≡ false
after_end [] = refl
after_end (x ∷ r) = refl

pub not_before : (p : Path) (k z : Key) (r : Path) → is_lt (key_cmp z k) ≡ false → is_lt (path_cmp (p ++ z ∷ r) (p ++ k ∷ [])) ≡ false
not_before p k z r e = rw same_front (greater_part (key_cmp z k) (path_cmp r []) e (λ same. after_end r))

pub not_before_beyond : (p : Path) (k : Key) (q : Path) → is_beyond p q ≡ true → is_lt (path_cmp q (p ++ k ∷ [])) ≡ false
not_before_beyond p k q e = ap is_lt (flip_less path_total (p ++ k ∷ []) q (beyond_less p (k ∷ []) q e))

never_beyond : (p s : Path) → is_beyond p (p ++ s) ≡ true → ⊥
never_beyond p s h = irreflexive path_total (p ++ s) (beyond_less p s (p ++ s) h)

first_part : (p : Path) (a b : Key) (r s : Path) → p ++ a ∷ r ≡ p ++ b ∷ s → a ≡ b
first_part p a b r s e = let rest = append_cancel_left p (a ∷ r) (b ∷ s) e in cc

module _ (Entry : Start → LeafElement → Type 0) (from : Start) (all : HasEntries Entry from) (listing : List Member) (lists : Lists Entry from listing)
    (path : Path) (bucket : Start) (names : Names Entry from path bucket) where
  -- the first of what a test keeps is the entry with the least key of those that lie in the bucket
  pub give : (f : Path → Bool) (e : LeafElement) → Entry bucket e → ((q t : Path) → f q ≡ true → path_cmp q t ≡ Less → f t ≡ true)
      → f (path ++ e.key ∷ []) ≡ true
      → ((q : Path) → f q ≡ true → (is_beyond path q ≡ true) ⊎ ((z : Key) × (r : Path) × (q ≡ path ++ z ∷ r)))
      → ((z : Key) (r : Path) (g : LeafElement) → f (path ++ z ∷ r) ≡ true → Entry bucket g → g.key ≡ z → is_lt (key_cmp z e.key) ≡ false)
      → filter (λ m. f m.0) listing ≡ (path ++ e.key ∷ [], item_of e) ∷ rest_after (path ++ e.key ∷ []) listing
  give f e is up kept splits least =
      let own : Path = path ++ e.key ∷ [] in
      let in_bucket = λ (q : Path) (item : Item) (z : Key) (r : Path) (longer : q ≡ path ++ z ∷ r) (held : Holds Entry from q item) (h : f q ≡ true).
      let down = held_down Entry from path bucket z r item all names (subst (λ (t : Path). Holds Entry from t item) longer held) in
      let (g, gis, gkey) = first_of_held Entry bucket z r item down in
      least z r g (ap f (sym longer) ∙ h) gis gkey in
      let least_held : (q : Path) (item : Item) → Holds Entry from q item → f q ≡ true → is_lt (path_cmp q own) ≡ false = λ q item held h.
      elim (splits q h) [
        | inl far ↦ not_before_beyond path e.key q far
        | inr (z, r, longer) ↦ rw longer (not_before path e.key z r (in_bucket q item z r longer held h))
      ] in
      filter_first member_total (λ m. f m.0) (own, item_of e) (λ m after. up own m.0 kept after) listing lists.rises
      ((lists.exact own (item_of e)).1 (held_here Entry from path bucket e names is)) kept
      (λ m in_it h. least_held m.0 m.1 ((lists.exact m.0 m.1).0 in_it) h)

  up_behind : (q t : Path) → is_lt (path_cmp path q) ≡ true → path_cmp q t ≡ Less → is_lt (path_cmp path t) ≡ true
  up_behind q t h less = lt_of (path_cmp path t) (path_total.trans path q t (less_of (path_cmp path q) h) less)

  -- a bucket is entered
  pub give_first : (entries : List LeafElement) (e : LeafElement) → AreEntries Entry bucket entries → slice_get entries 0 ≡ Some e
      → rest_after path listing ≡ (path ++ e.key ∷ [], item_of e) ∷ rest_after (path ++ e.key ∷ []) listing
  give_first entries e are at =
      give (λ q. is_lt (path_cmp path q)) e ((are.exact e).0 (contains_at entries 0 e at)) up_behind (lt_of _ (before_longer path e.key []))
      (λ q h. beyond_or_longer path q (less_of (path_cmp path q) h))
      (λ z r g h is key. rw (← key) (first_least entries e g are.rises at ((are.exact g).1 is)))

  -- it has no entry
  pub give_none : AreEntries Entry bucket [] → rest_after path listing ≡ beyond path listing
  give_none are =
      let nothing = λ (q : Path) (item : Item) (held : Holds Entry from q item) (z : Key) (r : Path) (longer : q ≡ path ++ z ∷ r).
      let down = held_down Entry from path bucket z r item all names (subst (λ (t : Path). Holds Entry from t item) longer held) in
      let (g, gis, gkey) = first_of_held Entry bucket z r item down in
      contains_none g ((are.exact g).1 gis) in
      filter_same (λ m. is_lt (path_cmp path m.0)) (λ m. is_beyond path m.0) listing (λ m in_it.
      both_ways _ _
      (λ h. elim (beyond_or_longer path m.0 (less_of (path_cmp path m.0) h)) as (λ w. is_beyond path m.0 ≡ true) [
        | inl far ↦ far
        | inr (z, r, longer) ↦ absurd (nothing m.0 m.1 ((lists.exact m.0 m.1).0 in_it) z r longer)
      ])
      (λ h. lt_of _ (subst (λ (p : Path). path_cmp p m.0 ≡ Less) (append-nil path) (beyond_less path [] m.0 h))))

  -- the cursor of the bucket moves on to its next entry
  pub give_next : (entries : List LeafElement) (i : ℕ) (e g : LeafElement) → AreEntries Entry bucket entries → slice_get entries i ≡ Some e
      → slice_get entries (suc i) ≡ Some g
      → beyond (path ++ e.key ∷ []) listing ≡ (path ++ g.key ∷ [], item_of g) ∷ rest_after (path ++ g.key ∷ []) listing
  give_next entries i e g are at next =
      let on : Path = path ++ e.key ∷ [] in
      let less : key_cmp e.key g.key ≡ Less = next_less entries i e g are.rises at next in
      give (is_beyond on) g ((are.exact g).0 (contains_at entries (suc i) g next)) (λ q t h k. beyond_up on q t h k) (beyond_here path e.key g.key [] [] less)
      (λ q h. elim (beyond_push path e.key q h) [ inl far ↦ inl far | inr (z, r, longer, behind_e) ↦ inr (z, r, longer) ])
      (λ z r f h is key. elim (beyond_push path e.key (path ++ z ∷ r) h) [
        | inl far ↦ absurd (never_beyond path (z ∷ r) far)
        | inr (y, t, longer, behind_e) ↦ let same : z ≡ y = first_part path z y r t longer in
            rw (← key) (next_least entries i e g f are.rises at next ((are.exact f).1 is) (rw (key, same) behind_e))
      ])

  -- or there is none
  pub give_after_last : (entries : List LeafElement) (i : ℕ) (e : LeafElement) → AreEntries Entry bucket entries → slice_get entries i ≡ Some e
      → length entries ≤ suc i
      → beyond (path ++ e.key ∷ []) listing ≡ beyond path listing
  give_after_last entries i e are at short =
      filter_same (λ m. is_beyond (path ++ e.key ∷ []) m.0) (λ m. is_beyond path m.0) listing (λ m in_it.
      both_ways _ _
      (λ h. elim (beyond_push path e.key m.0 h) as (λ w. is_beyond path m.0 ≡ true) [
        | inl far ↦ far
        | inr (z, r, longer, behind_e) ↦
            let held = (lists.exact m.0 m.1).0 in_it in
            let down = held_down Entry from path bucket z r m.1 all names (subst (λ (t : Path). Holds Entry from t m.1) longer held) in
            let (g, gis, gkey) = first_of_held Entry bucket z r m.1 down in
            absurd (last_greatest entries i e g are.rises at short ((are.exact g).1 gis) (rw gkey behind_e))
      ])
      (λ h. beyond_longer path (e.key ∷ []) m.0 h))

  -- nothing is held below a value
  pub give_past_value : (e : LeafElement) → Entry bucket e → e.is_bucket ≡ false
      → rest_after (path ++ e.key ∷ []) listing ≡ beyond (path ++ e.key ∷ []) listing
  give_past_value e is value =
      let own : Path = path ++ e.key ∷ [] in
      filter_same (λ m. is_lt (path_cmp own m.0)) (λ m. is_beyond own m.0) listing (λ m in_it.
      both_ways _ _
      (λ h. elim (beyond_or_longer own m.0 (less_of (path_cmp own m.0) h)) as (λ w. is_beyond own m.0 ≡ true) [
        | inl far ↦ far
        | inr (z, r, longer) ↦
            let held = (lists.exact m.0 m.1).0 in_it in
            let below = held_below Entry from path bucket e z r m.1 all names is (subst (λ (t : Path). Holds Entry from t m.1) longer held) in
            absurd (let b : e.is_bucket ≡ true = below.0 in cc)
      ])
      (λ h. lt_of _ (subst (λ (p : Path). path_cmp p m.0 ≡ Less) (append-nil own) (beyond_less own [] m.0 h))))

  -- the member at a path is the first of the rest from it
  pub give_itself : (e : LeafElement) → Entry bucket e
      → rest_from (path ++ e.key ∷ []) listing ≡ (path ++ e.key ∷ [], item_of e) ∷ rest_after (path ++ e.key ∷ []) listing
  give_itself e is =
      let own : Path = path ++ e.key ∷ [] in
      filter_first member_total (λ m. not (is_lt (path_cmp m.0 own))) (own, item_of e)
      (λ m after. ap not (ap is_lt (flip_less path_total own m.0 after))) listing lists.rises
      ((lists.exact own (item_of e)).1 (held_here Entry from path bucket e names is)) (ap not (ap is_lt (path_same own)))
      (λ m in_it h. false_from_ne_true _ (λ lt. let x = ap not lt in cc))
