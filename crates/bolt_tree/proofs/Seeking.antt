-- The rest of a listing from a path, found part by part: if a bucket has no entry from a part on, a greater one, or a value.
-- Rests on the order of paths, and on what a named bucket holds (Named).
use Rattle.std.proofs.Common.{rules, ◌≡◌, ◌∙◌, ◌≤◌, inl, inr, true, false, not, List, [], ◌∷◌, ◌++◌, length, Some, slice_get, refl, ap, subst, ◌+◌}
use Rattle.std.proofs.Common.{◌<◌, ℕ, suc, take, drop, get_or, eqb, eq-eqb, sym, arith, Bor}
use Rattle.std.proofs.lemmas.Grind.{common_steps}
use Rattle.bolt_lemmas.proofs.Exports.{filter_all, filter_same, flip_less}
use Rattle.bolt_tree.proofs.Words.{AreEntries, AreOpen, Checked, CursorView, Equal, Greater, HasEntries, Holds, Item, Key, LeafElement, Less, Lists}
use Rattle.bolt_tree.proofs.Words.{Member, Names, Ordering, Path, Start, beyond, both_ways, entries_of, false_from_ne_true, is_beyond, is_end, is_lt}
use Rattle.bolt_tree.proofs.Words.{key_cmp, least_from, less_of, nat_tests, not-true, ordering_reverse, path_cmp, path_of, props, rest_after}
use Rattle.bolt_tree.proofs.Words.{rest_from, root_start, ∥∥₁_elim}
use Rattle.bolt_tree.proofs.{EntryOrder.seek_least, EntryOrder.seek_none}
use Rattle.bolt_tree.proofs.{Giving.not_before, Giving.not_before_beyond, Giving.after_end, Named.first_of_held, Named.held_below, Named.held_down}
use Rattle.bolt_tree.proofs.PathOrder.{before_longer, beyond_less, beyond_or_longer, path_exact, path_total, same_front}

-- from p < w and not m < w
behind_from : (p w m : Path) → path_cmp p w ≡ Less → is_lt (path_cmp m w) ≡ false → path_cmp p m ≡ Less
behind_from p w m less from = by (path_cmp w m) refl
  where
    by : (o : Ordering) → path_cmp w m ≡ o → path_cmp p m ≡ Less
    by Less e = path_total.trans p w m less e
    by Equal e = rw (← path_exact w m e) less
    by Greater e = absurd (let f : path_cmp m w ≡ Less = path_total.antisymm m w ∙ ap ordering_reverse e in let g = ap is_lt f in cc)

-- a path with a lesser part in that place stands before
lesser_part : (p : Path) (z k : Key) (r s : Path) → key_cmp z k ≡ Less → path_cmp (p ++ z ∷ r) (p ++ k ∷ s) ≡ Less
lesser_part p z k r s e = rw same_front (rw e refl)

-- and so a path that does not stand before has no lesser part there
from_part : (p : Path) (z k : Key) (r s : Path) → is_lt (path_cmp (p ++ z ∷ r) (p ++ k ∷ s)) ≡ false → is_lt (key_cmp z k) ≡ false
from_part p z k r s h = false_from_ne_true _ (λ lt. let less = lesser_part p z k r s (less_of (key_cmp z k) lt) in let f = ap is_lt less in cc)

module _ (Entry : Start → LeafElement → Type 0) (from : Start) (all : HasEntries Entry from) (listing : List Member) (lists : Lists Entry from listing) where
  -- where nothing below a path comes from there on, the rest is what stands beyond the path
  pub rest_beyond : (path : Path) (k : Key) (s : Path)
      → ((item : Item) (z : Key) (r : Path) → Holds Entry from (path ++ z ∷ r) item → is_lt (path_cmp (path ++ z ∷ r) (path ++ k ∷ s)) ≡ false → ⊥)
      → rest_from (path ++ k ∷ s) listing ≡ beyond path listing
  rest_beyond path k s none =
      let w : Path = path ++ k ∷ s in
      filter_same (λ m. not (is_lt (path_cmp m.0 w))) (λ m. is_beyond path m.0) listing (λ m in_it.
      both_ways _ _
      (λ h. let from_w = not-true _ h in
      elim (beyond_or_longer path m.0 (behind_from path w m.0 (before_longer path k s) from_w)) as (λ v. is_beyond path m.0 ≡ true) [
        | inl far ↦ far
        | inr (z, r, longer) ↦
            let held = (lists.exact m.0 m.1).0 in_it in
            absurd (none m.1 z r (subst (λ (t : Path). Holds Entry from t m.1) longer held) (subst (λ (t : Path). is_lt (path_cmp t w) ≡ false) longer from_w))
      ])
      (λ h. ap not (ap is_lt (flip_less path_total w m.0 (beyond_less path (k ∷ s) m.0 h)))))

  module _ (path : Path) (bucket : Start) (names : Names Entry from path bucket) where
    -- the bucket has no entry from the key on
    pub rest_none : (entries : List LeafElement) (key : Key) (s : Path) → AreEntries Entry bucket entries → length entries ≤ least_from key entries
        → rest_from (path ++ key ∷ s) listing ≡ beyond path listing
    rest_none entries key s are long =
        rest_beyond path key s (λ item z r held h.
        let (g, gis, gkey) = first_of_held Entry bucket z r item (held_down Entry from path bucket z r item all names held) in
        let before = seek_none key entries g long ((are.exact g).1 gis) in
        let not_less = from_part path z key r s h in
        let same : is_lt (key_cmp z key) ≡ true = rw (← gkey) before in cc)

    -- the path goes on below a value
    pub rest_past_value : (e : LeafElement) (k : Key) (s : Path) → Entry bucket e → e.is_bucket ≡ false
        → rest_from ((path ++ e.key ∷ []) ++ k ∷ s) listing ≡ beyond (path ++ e.key ∷ []) listing
    rest_past_value e k s is value = search (rules, rest_beyond, held_below)

    -- the bucket's first entry from the key on has a greater key
    pub rest_greater : (entries : List LeafElement) (e : LeafElement) (key : Key) (s : Path) → AreEntries Entry bucket entries
        → slice_get entries (least_from key entries) ≡ Some e
        → key_cmp key e.key ≡ Less → rest_from (path ++ key ∷ s) listing ≡ rest_from (path ++ e.key ∷ []) listing
    rest_greater entries e key s are at greater =
        let w : Path = path ++ key ∷ s in
        let own : Path = path ++ e.key ∷ [] in
        filter_same (λ m. not (is_lt (path_cmp m.0 w))) (λ m. not (is_lt (path_cmp m.0 own))) listing (λ m in_it.
        both_ways _ _
        (λ h. let from_w = not-true _ h in
        elim (beyond_or_longer path m.0 (behind_from path w m.0 (before_longer path key s) from_w)) as (λ v. not (is_lt (path_cmp m.0 own)) ≡ true) [
          | inl far ↦ ap not (not_before_beyond path e.key m.0 far)
          | inr (z, r, longer) ↦
              let held = (lists.exact m.0 m.1).0 in_it in
              let (g, gis, gkey) =
              first_of_held Entry bucket z r m.1
              (held_down Entry from path bucket z r m.1 all names (subst (λ (t : Path). Holds Entry from t m.1) longer held)) in
              let not_less = from_part path z key r s (subst (λ (t : Path). is_lt (path_cmp t w) ≡ false) longer from_w) in
              let least = (seek_least key entries e g are.rises at ((are.exact g).1 gis) (rw gkey not_less)).1 in
              let out : is_lt (path_cmp m.0 own) ≡ false = rw longer (not_before path e.key z r (rw (← gkey) least)) in ap not out
        ])
        (λ h. let from_own = not-true _ h in ap not (false_from_ne_true _ (λ lt.
        let less : path_cmp m.0 own ≡ Less = path_total.trans m.0 w own (less_of _ lt) (lesser_part path key e.key s [] greater) in
        let f = ap is_lt less in cc))))

  -- all is from the empty path on
  pub rest_all : rest_from [] listing ≡ listing
  rest_all = filter_all (λ m. not (is_lt (path_cmp m.0 []))) listing (λ m in_it. ap not (after_end m.0))

  held_some : (q : Path) (item : Item) → Holds Entry from q item → is_lt (path_cmp [] q) ≡ true
  held_some q item h = grind arith

  -- and all is after it
  pub behind_all : rest_after [] listing ≡ listing
  behind_all = filter_all (λ m. is_lt (path_cmp [] m.0)) listing (λ m in_it. held_some m.0 m.1 ((lists.exact m.0 m.1).0 in_it))

pub parts_whole : (path : List (Bor (List ℕ))) (i : ℕ) (d : Bor (List ℕ)) → i < length path
    → path_of (take i path) ++ (get_or path i d).now ∷ path_of (drop (suc i) path) ≡ path_of path
parts_whole (x ∷ path) (suc i) d h = ap (λ (ks : Path). x.now ∷ ks) (parts_whole path i d (omega arith))
parts_whole path i d h = grind arith

not_equal : (m n : ℕ) → m < n → eqb m n ≡ false
not_equal m n h = grind (arith, nat_tests)

both_more : (i m n : ℕ) → n ≡ suc m → eqb (i + 1) m ≡ eqb (suc i + 1) n
both_more i m n e = grind (arith, nat_tests)

pub ends_at : (path : List (Bor (List ℕ))) (i n : ℕ) → n ≡ length path → i < n → is_end (path_of (drop (suc i) path)) ≡ eqb (i + 1) n
ends_at (x ∷ y ∷ path) (suc i) n e h = ends_at (y ∷ path) i (length (y ∷ path)) refl (omega arith) ∙ both_more i (length (y ∷ path)) n e
ends_at path i n e h = grind (arith, eq-eqb, not_equal)

pub none_left : {A : Type 0} (xs : List A) (i : ℕ) → i ≤ length xs → length xs ≤ i → (0 < i → i < length xs) → xs ≡ []
none_left xs i h k more = grind (arith, common_steps)

-- with no part, all is left
pub from_start : (checked : Checked) (cursors : List CursorView) (keys path : Path)
    → ∥ HasEntries (entries_of checked) (root_start checked) × AreOpen checked [] cursors keys ∥₁ → keys ≡ [] → path ≡ []
    → (listing : List Member) → Lists (entries_of checked) (root_start checked) listing → rest_after keys listing ≡ rest_from path listing
from_start checked cursors keys path buckets none empty listing lists =
    ∥∥₁_elim buckets (hlevel props) (λ t.
    ap (λ (p : Path). rest_after p listing) none ∙ (behind_all (entries_of checked) (root_start checked) t.0 listing lists
    ∙ (sym (rest_all (entries_of checked) (root_start checked) t.0 listing lists) ∙ ap (λ (p : Path). rest_from p listing) (sym empty))))
