-- Of entries by key and value, those whose keys no others have, and the number of the keys.
use Rattle.std.proofs.Common.{rules, ◌≡◌, ◌∙◌, ◌<◌, ◌++◌, ◌≤◌, ◌+◌, ◌⊎◌, ◌&&◌, inl, inr, ℕ, suc, Bool, true, false, List, [], ◌∷◌, cond, drop, length}
use Rattle.std.proofs.Common.{length-set, map, not, refl, set, sym, ap, subst, slice_index_or, take, arith}
use Rattle.std.proofs.lemmas.Bool.{and_parts, cases_Bool, cond-false, cond-true, cond_both, false_from_ne_true, not-false, true_from_ne_false}
use Rattle.std.proofs.lemmas.Cmp.{nat_list_eq_equiv}
use Rattle.std.proofs.lemmas.List.{append-nil, append_assoc, drop-set-lt, drop_all, drop_more, map-append, take_more_set}
use Rattle.std.proofs.{lemmas.List.Kept.Contains-dedup, lemmas.List.Kept.Contains-from_dedup, lemmas.List.Kept.IsStrictlySortedBy-dedup}
use Rattle.std.proofs.{lemmas.Map.Text.is_eq-slice_cmp}
use Rattle.std.proofs.lemmas.Slice.Eq.{bytes_eq-Decides}
use Rattle.std.specs.{Cmp.Lexicographic.same_text, List.Contains, List.dedup, List.dedup_from, Ordering.is_lt}
use Rattle.std.specs.{Ordering.ordering_then, Str.bytes_eq}
use Rattle.std.specs.{declared.cmp.Ordering.Ordering, declared.cmp.Ordering.TheVariants.Less}
use Rattle.bolt_lemmas.proofs.Exports.{Climbs, climbs_sorted, contains_cases, contains_head, contains_none, contains_tail, here_at, irreflexive, neither}
use Rattle.bolt_lemmas.proofs.Exports.{rises_as, rises_from, shows_from, shows_has, then_not_above}
use Rattle.bolt_lemmas.specs.Order.{Rises}
use Rattle.bolt_check.specs.Keys.{Key, key_cmp}
use Rattle.bolt_tree.proofs.Exports.{key_exact, key_total}
use Rattle.bolt_tree.specs.{Entries.EntryView, InBuckets.view_cmp}
use Rattle.bolt_repair.specs.{Candidates.whole_cmp, Undisputed.AreKeys, Undisputed.AreUndisputed, Undisputed.HaveKeys, Undisputed.is_last_of_key}
use Rattle.bolt_etcd.specs.{Wire.ShownRevisions.value_bytes, Wire.ShownRevisions.entry_of, declared.wire.revision.Revision.Revision}
use Rattle.bolt_repair.proofs.WholeOrder.{whole_total}

-- ---- by key, entries climb

abbrev pub key_below : Key → Key → Bool
key_below a b = is_lt (key_cmp a b)

abbrev pub entry_below : EntryView → EntryView → Bool
entry_below a b = key_below a.key b.key

not_below : (a b : EntryView) → whole_cmp a b ≡ Less → entry_below b a ≡ false
not_below a b less = ap is_lt (key_total.antisymm b.key a.key) ∙ then_not_above (key_cmp a.key b.key) _ less

pub entries_climb : (es : List EntryView) → Rises whole_cmp es → Climbs entry_below es
entries_climb [] rises = tt
entries_climb (e ∷ es) rises = (λ b has. not_below e b (rises.0 b has), entries_climb es rises.1)

keys_climb : (es : List EntryView) → Rises whole_cmp es → Climbs key_below (map (λ (e : EntryView). e.key) es)
keys_climb [] rises = tt
keys_climb (e ∷ es) rises = (
  λ key has. let (b, there, is) = shows_from (λ (x : EntryView). x.key) es key has in
      subst (λ (k : Key). key_below k e.key ≡ false) is (not_below e b (rises.0 b there)),
  keys_climb es rises.1,
)

level : (a b : Key) → key_below a b ≡ false → key_below b a ≡ false → a ≡ b
level a b e f = key_exact a b (neither (key_cmp a b) e (ap is_lt (sym (key_total.antisymm b a)) ∙ f))

-- ---- those that are the first and the last with their keys

abbrev pub alones : Bool → List EntryView → List EntryView
alones first [] = []
alones first (e ∷ es) = cond (first && is_last_of_key (e ∷ es)) (e ∷ alones (is_last_of_key (e ∷ es)) es) (alones (is_last_of_key (e ∷ es)) es)

alone_cases : (x e : EntryView) (rest : List EntryView) (c : Bool) → Contains (cond c (x ∷ rest) rest) e → ((c ≡ true) × (x ≡ e)) ⊎ Contains rest e
alone_cases x e rest true has = elim (contains_cases x e rest has) [ inl is ↦ inl (refl, is) | inr more ↦ inr more ]
alone_cases x e rest false has = inr has

alone_more : (x e : EntryView) (rest : List EntryView) (c : Bool) → Contains rest e → Contains (cond c (x ∷ rest) rest) e
alone_more x e rest true has = contains_tail x e rest has
alone_more x e rest false has = has

alone_here : (x : EntryView) (rest : List EntryView) (c : Bool) → c ≡ true → Contains (cond c (x ∷ rest) rest) x
alone_here x rest true is = contains_head x rest
alone_here x rest false is = cc

alone_there : (first : Bool) (es : List EntryView) (e : EntryView) → Contains (alones first es) e → Contains es e
alone_there first [] e has = has
alone_there first (x ∷ es) e has = elim (alone_cases x e _ (first && is_last_of_key (x ∷ es)) has) [
  | inl (_, is) ↦ subst (Contains (x ∷ es)) is (contains_head x es)
  | inr more ↦ contains_tail x e es (alone_there (is_last_of_key (x ∷ es)) es e more)
]

alones_rise : (first : Bool) (es : List EntryView) → Rises whole_cmp es → Rises whole_cmp (alones first es)
alones_rise first [] rises = tt
alones_rise first (x ∷ es) rises =
    let last = is_last_of_key (x ∷ es) in
    let later = alones_rise last es rises.1 in
    cond_both (first && last) _ _ (Rises whole_cmp) (λ both. (λ y has. rises.0 y (alone_there last es y has), later)) (λ other. later)

-- ---- no other one has their keys

-- the next one has the key that a later one has
next_same : (a b : EntryView) (es : List EntryView) (y : EntryView) → Rises whole_cmp (a ∷ b ∷ es) → Contains (b ∷ es) y → y.key ≡ a.key
    → b.key ≡ a.key
next_same a b es y rises has same = grind (arith, contains_cases, level, not_below, contains_head)

-- so the first isn't the last with its key
not_last : (a : EntryView) (es : List EntryView) (y : EntryView) → Rises whole_cmp (a ∷ es) → Contains es y → y.key ≡ a.key
    → is_last_of_key (a ∷ es) ≡ false
not_last a [] y rises has same = absurd (contains_none y has)
not_last a (b ∷ es) y rises has same = ap not ((bytes_eq-Decides b.key a.key).1 (next_same a b es y rises has same))

-- where the first isn't the first with its key, none is left of that key
none_of_first : (x : EntryView) (es : List EntryView) (e : EntryView) → Rises whole_cmp (x ∷ es) → Contains (alones false (x ∷ es)) e → e.key ≡ x.key
    → ⊥
none_of_first x [] e rises has same = contains_none e has
none_of_first x (y ∷ es) e rises has same =
    let there = alone_there (is_last_of_key (x ∷ y ∷ es)) (y ∷ es) e has in
    let more = subst (λ (b : Bool). Contains (alones b (y ∷ es)) e) (not_last x (y ∷ es) e rises there same) has in
    none_of_first y es e rises.1 more (same ∙ sym (next_same x y es e rises there same))

no_other : (first : Bool) (es : List EntryView) (e other : EntryView) → Rises whole_cmp es → Contains (alones first es) e → Contains es other
    → other.key ≡ e.key → other ≡ e
no_other first [] e other rises has also same = absurd (contains_none other also)
no_other first (x ∷ es) e other rises has also same =
    let last = is_last_of_key (x ∷ es) in
    elim (alone_cases x e (alones last es) (first && last) has) [
      | inl (passes, is) ↦ elim (contains_cases x other es also) [
        | inl first_is ↦ sym first_is ∙ is
        | inr later ↦
            let shared = not_last x es other rises later (same ∙ ap (λ (v : EntryView). v.key) (sym is)) in
            let isn't = (and_parts first last passes).1 in
            cc
      ]
      | inr more ↦ elim (contains_cases x other es also) [
        | inl first_is ↦ absurd (none_of_first x es e rises more (sym (ap (λ (v : EntryView). v.key) first_is ∙ same)))
        | inr later ↦ no_other last es e other rises.1 more later same
      ]
    ]

-- ---- and all such ones are left

abbrev IsHead : List EntryView → EntryView → Type 0
IsHead [] e = ⊥
IsHead (x ∷ es) e = x.key ≡ e.key

no_twin : (x e : EntryView) (es : List EntryView) → Rises whole_cmp (x ∷ es) → Contains es e → x ≡ e → ⊥
no_twin x e es rises has same = irreflexive whole_total e (subst (λ (v : EntryView). whole_cmp v e ≡ Less) same (rises.0 e has))

is_last : (x : EntryView) (es : List EntryView) → Rises whole_cmp (x ∷ es)
    → ((other : EntryView) → Contains (x ∷ es) other → other.key ≡ x.key → other ≡ x) → is_last_of_key (x ∷ es) ≡ true
is_last x [] rises one = refl
is_last x (y ∷ es) rises one = ap not (false_from_ne_true (bytes_eq y.key x.key) (λ same.
    no_twin x y (y ∷ es) rises (contains_head y es) (sym (one y (contains_tail x y (y ∷ es) (contains_head y es)) ((bytes_eq-Decides y.key x.key).0 same)))))

next_head : (x e : EntryView) (es : List EntryView) → Rises whole_cmp (x ∷ es) → Contains es e
    → ((other : EntryView) → Contains (x ∷ es) other → other.key ≡ e.key → other ≡ e)
    → is_last_of_key (x ∷ es) ≡ false → IsHead es e → ⊥
next_head x e [] rises has one shared head = head
next_head x e (y ∷ es) rises has one shared head =
    let same : y.key ≡ x.key = (bytes_eq-Decides y.key x.key).0 (not-false (bytes_eq y.key x.key) shared) in
    no_twin x e (y ∷ es) rises has (one x (contains_head x (y ∷ es)) (sym same ∙ head))

alone_has : (first : Bool) (es : List EntryView) (e : EntryView) → Rises whole_cmp es → Contains es e
    → ((other : EntryView) → Contains es other → other.key ≡ e.key → other ≡ e)
    → (first ≡ false → IsHead es e → ⊥) → Contains (alones first es) e
alone_has first [] e rises has one free = has
alone_has first (x ∷ es) e rises has one free =
    let last = is_last_of_key (x ∷ es) in
    elim (contains_cases x e es has) [
      | inl is ↦
          let leads = true_from_ne_false first (λ no. free no (ap (λ (v : EntryView). v.key) is)) in
          let ends =
          is_last x es rises (subst (λ (v : EntryView). (other : EntryView) → Contains (x ∷ es) other → other.key ≡ v.key → other ≡ v) (sym is) one) in
          subst (Contains (alones first (x ∷ es))) is (alone_here x (alones last es) (first && last) (rw (leads, ends) refl))
      | inr later ↦
          alone_more x e (alones last es) (first && last)
          (alone_has last es e rises.1 later (λ other there same. one other (contains_tail x other es there) same) (next_head x e es rises later one))
    ]

by_keys : (a b : EntryView) (o : Ordering) → key_cmp a.key b.key ≡ o → ordering_then o (key_cmp (value_bytes a) (value_bytes b)) ≡ Less
    → (a.key ≡ b.key → ⊥) → o ≡ Less
by_keys a b o is less differ = grind (arith, key_exact)

pub are_undisputed : (es : List EntryView) → Rises whole_cmp es → AreUndisputed es (alones true es)
are_undisputed es rises = record {
  rises = rises_as whole_cmp view_cmp (alones true es) (λ a b has also less. by_keys a b (key_cmp a.key b.key) refl less (λ same.
      irreflexive whole_total b (subst (λ (v : EntryView). whole_cmp v b ≡ Less) (no_other true es b a rises also (alone_there true es a has) same) less)))
      (alones_rise true es rises);
  exact = λ e. (
    λ has. (alone_there true es e has, λ other there same. no_other true es e other rises has there same),
    λ (has, one). alone_has true es e rises has one (λ no. cc),
  );
}

-- ---- the keys

abbrev keys_in : List EntryView → List Key
keys_in es = map (λ (e : EntryView). e.key) es

are_keys : (es : List EntryView) → Rises whole_cmp es → AreKeys es (dedup bytes_eq (keys_in es))
are_keys es rises = record {
  rises =
      rises_from key_total _
      (IsStrictlySortedBy-dedup key_total (λ a b. sym (is_eq-slice_cmp a b)) (keys_in es) (climbs_sorted key_below _ (keys_climb es rises)));
  exact = λ key. (
    λ has. shows_from (λ (e : EntryView). e.key) es key (Contains-from_dedup bytes_eq (keys_in es) key has),
    λ (e, has, is). Contains-dedup nat_list_eq_equiv (λ a b same. same_text a b (sym same)) (keys_in es) key
        (subst (Contains (keys_in es)) is (shows_has (λ (e : EntryView). e.key) es e has)),
  );
}

abbrev pub count_keys : List EntryView → ℕ
count_keys [] = 0
count_keys (e ∷ es) = cond (is_last_of_key (e ∷ es)) (suc (count_keys es)) (count_keys es)

count_from : (a : EntryView) (es : List EntryView) → length (dedup_from bytes_eq a.key (keys_in es)) ≡ count_keys (a ∷ es)
count_from a [] = refl
count_from a (b ∷ es) = search (rules, cases_Bool, count_from b es)

pub have_keys : (es : List EntryView) → Rises whole_cmp es → HaveKeys es (count_keys es)
have_keys [] rises = ([], are_keys [] tt, refl)
have_keys (e ∷ es) rises = (dedup bytes_eq (keys_in (e ∷ es)), are_keys (e ∷ es) rises, sym (count_from e es))

-- ---- from one entry on to the next

-- the last of all is the last with its key
pub at_the_end : (xs : List Revision) (i : ℕ) → i < length xs → length xs ≤ i + 1 → is_last_of_key (map entry_of (drop i xs)) ≡ true
at_the_end xs i below past =
    let (x, at) = here_at xs i below in
    ap (λ (rs : List Revision). is_last_of_key (map entry_of rs)) (at ∙ ap (λ (rs : List Revision). x ∷ rs) (drop_all (i + 1) xs past))

module _ (xs : List Revision) (i : ℕ) (last : Bool) (is : last ≡ is_last_of_key (map entry_of (drop i xs))) where
  abbrev rest : List EntryView
  rest = map entry_of (drop (i + 1) xs)

  module _ (x : Revision) (at : drop i xs ≡ x ∷ drop (i + 1) xs) where
    last_is : is_last_of_key (entry_of x ∷ rest) ≡ last
    last_is = sym (is ∙ ap (λ (rs : List Revision). is_last_of_key (map entry_of rs)) at)

    alones_at : (first : Bool) → alones first (map entry_of (drop i xs)) ≡ cond (first && last) (entry_of x ∷ alones last rest) (alones last rest)
    alones_at first =
        ap (λ (rs : List Revision). alones first (map entry_of rs)) at
        ∙ ap (λ (b : Bool). cond (first && b) (entry_of x ∷ alones b rest) (alones b rest)) last_is

    keys_at : count_keys (map entry_of (drop i xs)) ≡ cond last (suc (count_keys rest)) (count_keys rest)
    keys_at = ap (λ (rs : List Revision). count_keys (map entry_of rs)) at ∙ ap (λ (b : Bool). cond b (suc (count_keys rest)) (count_keys rest)) last_is

  -- so many keys were counted
  module _ (whole : List EntryView) (keys : ℕ) (below : i < length xs) (number : keys + count_keys (map entry_of (drop i xs)) ≡ count_keys whole) where
    pub counted : last ≡ true → (keys + 1) + count_keys rest ≡ count_keys whole
    counted ends =
        let (x, at) = here_at xs i below in
        omega (arith, number, keys_at x at ∙ cond-true last (suc (count_keys rest)) (count_keys rest) ends)

    pub not_counted : last ≡ false → keys + count_keys rest ≡ count_keys whole
    not_counted more =
        let (x, at) = here_at xs i below in
        omega (arith, number, keys_at x at ∙ cond-false last (suc (count_keys rest)) (count_keys rest) more)

  -- these are kept
  module _ (whole : List EntryView) (kept : ℕ) (first : Bool) (low : kept ≤ i) (below : i < length xs)
      (told : map entry_of (take kept xs) ++ alones first (map entry_of (drop i xs)) ≡ alones true whole) where
    abbrev pub IsNext : List Revision → ℕ → Type 0
    IsNext ys more =
        (length ys ≡ length xs) × (more ≤ i + 1) × (drop (i + 1) ys ≡ drop (i + 1) xs)
        × (map entry_of (take more ys) ++ alones last (map entry_of (drop (i + 1) ys)) ≡ alones true whole)

    pub written : (x : Revision) → x ≡ slice_index_or xs i x → first ≡ true → last ≡ true → (ys : List Revision) (more : ℕ) → ys ≡ set xs kept x
        → more ≡ kept + 1 → IsNext ys more
    written x stands leads ends ys more is_set is_more =
        grind (arith, drop_more, drop-set-lt, take_more_set, map-append, alones_at, cond-true, length-set, append_assoc)

    pub passed : first && last ≡ false → (ys : List Revision) (more : ℕ) → ys ≡ xs → more ≡ kept → IsNext ys more
    passed none ys more is_same is_more =
        let (x, at) = here_at xs i below in
        let step = alones_at x at first ∙ cond-false (first && last) _ _ none in
        rw (is_same, is_more) (refl, omega (arith, low), refl, ap (λ (es : List EntryView). map entry_of (take kept xs) ++ es) (sym step) ∙ told)

-- ---- past the last one

pub all_told : (whole : List EntryView) (xs : List Revision) (i kept : ℕ) (first : Bool) → length xs ≤ i
    → map entry_of (take kept xs) ++ alones first (map entry_of (drop i xs)) ≡ alones true whole
    → map entry_of (take kept xs) ≡ alones true whole
all_told whole xs i kept first past told =
    sym (append-nil _) ∙ ap (λ (rs : List Revision). map entry_of (take kept xs) ++ alones first (map entry_of rs)) (sym (drop_all i xs past)) ∙ told

pub all_counted : (whole : List EntryView) (xs : List Revision) (i keys : ℕ) → length xs ≤ i
    → keys + count_keys (map entry_of (drop i xs)) ≡ count_keys whole → keys ≡ count_keys whole
all_counted whole xs i keys past number = omega (arith, ap (λ (rs : List Revision). count_keys (map entry_of rs)) (drop_all i xs past), number)
