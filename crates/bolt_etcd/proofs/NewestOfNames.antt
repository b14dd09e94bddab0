-- Of a list that rises by keys, the last of each name is the first of its name in the list sorted by names, the later keys first.
use Rattle.std.proofs.Common.{◌≡◌, ◌∙◌, inl, inr, ℕ, Bool, true, false, List, [], ◌∷◌, filter, Option, Some, None, refl, sym, ap, subst, arith}
use Rattle.std.proofs.lemmas.Cmp.{back_total, nat_list_cmp_total, nat_list_eq_equiv, on_equiv, on_total, then_total, tied_itself}
use Rattle.std.proofs.{lemmas.Bool.cond_both, lemmas.List.Kept.Any-dedup, lemmas.List.Kept.Contains-from_dedup}
use Rattle.std.proofs.{lemmas.List.Kept.IsStrictlySortedBy-dedup, lemmas.List.MinMax.ranks_by}
use Rattle.std.proofs.{lemmas.List.Sorted.Contains-permutation, lemmas.List.Sorted.IsPermutation-sym, lemmas.Map.Text.is_eq-slice_cmp}
use Rattle.std.specs.{Cmp.IsEquivalence, Cmp.IsStrictWeakOrder, Cmp.IsTotalOrder, List.Contains, List.dedup, List.dedup_from, List.last_or}
use Rattle.std.specs.{List.Sorted.IsPermutation, List.Sorted.IsSorted, List.Sorted.IsSortedBy, List.Sorted.IsStrictlySortedBy}
use Rattle.std.specs.{Cmp.Lexicographic.same_text}
use Rattle.std.specs.{Ordering.eq_by_cmp, Ordering.is_eq, Ordering.is_lt, Ordering.ordering_reverse, Ordering.ordering_then, Str.bytes_eq}
use Rattle.std.specs.{declared.cmp.Ordering.Ordering}
use Rattle.std.specs.declared.cmp.Ordering.TheVariants.{Less}
use Rattle.bolt_lemmas.proofs.Exports.{Climbs, contains_cases, contains_head, contains_none, contains_tail, filter_rises, first_less, kept, kept_from}
use Rattle.bolt_lemmas.proofs.Exports.{last_after, last_in, last_there, neither, one_of, rises_from, sorted_climbs}
use Rattle.bolt_lemmas.specs.Order.{Rises}
use Rattle.bolt_check.specs.Keys.{key_cmp}
use Rattle.bolt_tree.proofs.Exports.{key_exact}

pub text_ties : (a b : List ℕ) → bytes_eq a b ≡ is_eq (key_cmp a b)
text_ties a b = sym (is_eq-slice_cmp a b)

module _ {X : Type 0} (name key : X → List ℕ) (cmp : List ℕ → List ℕ → Ordering) (total : IsTotalOrder cmp)
    (ties : (a b : List ℕ) → bytes_eq a b ≡ is_eq (cmp a b)) where
  abbrev pub by_key : X → X → Ordering
  by_key a b = key_cmp (key a) (key b)

  abbrev pub by_name : X → X → Ordering
  by_name a b = cmp (name a) (name b)

  -- by names, and of one name the later keys first
  abbrev pub newest_first : X → X → Ordering
  newest_first a b = ordering_then (cmp (name a) (name b)) (key_cmp (key b) (key a))

  abbrev pub same_name : X → X → Bool
  same_name a b = bytes_eq (name a) (name b)

  keys_total : IsTotalOrder by_key
  keys_total = on_total key nat_list_cmp_total

  names_total : IsTotalOrder by_name
  names_total = on_total name total

  pub newest_total : IsTotalOrder newest_first
  newest_total = then_total names_total (back_total keys_total)

  not_back : (x y : X) → by_key x y ≡ Less → is_lt (by_key y x) ≡ false
  not_back x y less = ap is_lt (keys_total.antisymm y x ∙ ap ordering_reverse less)

  not_itself : (x : X) → is_lt (by_key x x) ≡ false
  not_itself x = ap is_lt (tied_itself keys_total x)

  -- ---- the last of those that pass a test

  pub record IsGreatest (p : X → Bool) (xs : List X) (x : X) : Type 0 where
    pub has : Contains xs x
    pub passes : p x ≡ true
    pub greatest : (y : X) → Contains xs y → p y ≡ true → is_lt (by_key x y) ≡ false

  pub last_greatest : (p : X → Bool) (xs : List X) (x : X) → Rises by_key xs → last_or None (filter p xs) ≡ Some x → IsGreatest p xs x
  last_greatest p xs x rises e = elim (last_in None (filter p xs) x e) [
    | inl none ↦ cc
    | inr there ↦
        let (has, passes) = kept_from p xs x there in
        record {
          has = has;
          passes = passes;
          greatest = λ y other also. elim (last_after by_key None (filter p xs) x y (filter_rises by_key p xs rises) e (kept p xs y other also)) [
            | inl is ↦ rw is (not_itself x)
            | inr less ↦ not_back y x less
          ];
        }
  ]

  -- two of which neither comes before the other have one key
  same_key : (a b : X) → is_lt (by_key a b) ≡ false → is_lt (by_key b a) ≡ false → key a ≡ key b
  same_key a b up down = key_exact (key a) (key b) (neither (by_key a b) up (ap is_lt (sym (keys_total.antisymm b a)) ∙ down))

  last_by : (p : X → Bool) (xs : List X) (x : X) (o : Option X) → Rises by_key xs → IsGreatest p xs x → last_or None (filter p xs) ≡ o → o ≡ Some x
  last_by p xs x None rises g e = absurd (last_there None (filter p xs) x (kept p xs x g.has g.passes) e)
  last_by p xs x (Some w) rises g e =
      let h = last_greatest p xs w rises e in
      ap Some (one_of nat_list_cmp_total key xs w x rises h.has g.has (same_key w x (h.greatest x g.has g.passes) (g.greatest w h.has h.passes)))

  pub last_from : (p : X → Bool) (xs : List X) (x : X) → Rises by_key xs → IsGreatest p xs x → last_or None (filter p xs) ≡ Some x
  last_from p xs x rises g = last_by p xs x (last_or None (filter p xs)) rises g refl

  -- ---- the first of each name

  pub newest_ranks : IsStrictWeakOrder (λ a b. is_lt (newest_first a b))
  newest_ranks = ranks_by newest_total (λ (x : X). x)

  -- one of y's name is kept, and y doesn't come before it
  abbrev IsLed : List X → X → Type 0
  IsLed kept y = (x : X) × Contains kept x × (name x ≡ name y) × (is_lt (newest_first y x) ≡ false)

  led_by_itself : (x : X) (xs : List X) (y : X) → x ≡ y → IsLed (x ∷ xs) y
  led_by_itself x xs y is = (x, contains_head x xs, ap name is, rw is (ap is_lt (tied_itself newest_total y)))

  led : (k : X) (zs : List X) → Climbs (λ a b. is_lt (newest_first a b)) (k ∷ zs) → (y : X) → Contains (k ∷ zs) y
      → IsLed (dedup_from same_name k zs) y
  led k [] climbs y has = led_by_itself k [] y (elim (contains_cases k y [] has) [ inl is ↦ is | inr none ↦ absurd (contains_none y none) ])
  led k (z ∷ zs) climbs y has =
      cond_both (same_name z k) _ _ (λ kept. IsLed kept y)
      (λ same.
      let rest = led k zs (λ w more. climbs.0 w (contains_tail z w zs more), climbs.1.1) in
      elim (contains_cases k y (z ∷ zs) has) [
        | inl is ↦ rest y (subst (Contains (k ∷ zs)) is (contains_head k zs))
        | inr more ↦ elim (contains_cases z y zs more) [
          | inl is ↦
              let (x, kept, named, first) = rest k (contains_head k zs) in
              let here = subst (λ w. is_lt (newest_first w k) ≡ false) is (climbs.0 z (contains_head z zs)) in
              (x, kept, named ∙ sym (same_text (name z) (name k) (sym same)) ∙ ap name is, newest_ranks.chain y k x here first)
          | inr others ↦ rest y (contains_tail k y zs others)
        ]
      ])
      (λ other. elim (contains_cases k y (z ∷ zs) has) [
        | inl is ↦ led_by_itself k _ y is
        | inr more ↦ let (x, kept, named, first) = led z zs climbs.1 y more in (x, contains_tail k x _ kept, named, first)
      ])

  names_ties : (x y : X) → same_name x y ≡ eq_by_cmp by_name x y
  names_ties x y = ties (name x) (name y)

  names_equal : IsEquivalence same_name
  names_equal = on_equiv name nat_list_eq_equiv

  by_names : (ys : List X) → IsSortedBy (λ a b. is_lt (newest_first a b)) ys → IsSorted by_name ys
  by_names ys up k d low high = first_less _ _ (up k d low high)

  pub names_rise : (ys : List X) → IsSortedBy (λ a b. is_lt (newest_first a b)) ys → IsStrictlySortedBy by_name (dedup same_name ys)
  names_rise ys up = IsStrictlySortedBy-dedup names_total names_ties ys (by_names ys up)

  kept_first : (ys : List X) (x : X) → IsSortedBy (λ a b. is_lt (newest_first a b)) ys → Contains (dedup same_name ys) x → (y : X) → Contains ys y
      → name y ≡ name x
      → is_lt (newest_first y x) ≡ false
  kept_first [] x up has y other named = absurd (contains_none x has)
  kept_first (k ∷ zs) x up has y other named =
      let (w, kept, same, first) = led k zs (sorted_climbs newest_ranks (k ∷ zs) up) y other in
      let one = one_of total name (dedup_from same_name k zs) w x (rises_from names_total _ (names_rise (k ∷ zs) up)) kept has (same ∙ named) in
      subst (λ z. is_lt (newest_first y z) ≡ false) one first

  -- of one name, the first by names isn't before the last by keys
  by_keys : (x y : X) → name y ≡ name x → is_lt (newest_first y x) ≡ false → is_lt (by_key x y) ≡ false
  by_keys x y named e = grind (arith, tied_itself)

  -- ---- both

  abbrev pub is_named : X → X → Bool
  is_named x y = same_name y x

  module _ (xs ys : List X) (once : (a b : X) → Contains xs a → Contains xs b → key a ≡ key b → a ≡ b) (moved : IsPermutation xs ys)
      (up : IsSortedBy (λ a b. is_lt (newest_first a b)) ys) where
    pub kept_greatest : (x : X) → Contains (dedup same_name ys) x → IsGreatest (is_named x) xs x
    kept_greatest x has = record {
      has = Contains-permutation ys xs x (IsPermutation-sym xs ys moved) (Contains-from_dedup same_name ys x has);
      passes = names_ties x x ∙ ap is_eq (tied_itself names_total x);
      greatest = λ y other passes.
          let named = same_text (name y) (name x) (sym passes) in
          by_keys x y named (kept_first ys x up has y (Contains-permutation xs ys y moved other) named);
    }

    pub greatest_kept : (x : X) → IsGreatest (is_named x) xs x → Contains (dedup same_name ys) x
    greatest_kept x g =
        let (k, w, lt, at, same) = Any-dedup names_equal ys x (Contains-permutation xs ys x moved g.has) in
        let kept : Contains (dedup same_name ys) w = (k, lt, at) in
        let h = kept_greatest w kept in
        let named = same_text (name x) (name w) (sym same) in
        subst (Contains (dedup same_name ys))
        (once w x h.has g.has
        (same_key w x (h.greatest x g.has same) (g.greatest w h.has (subst (λ (n : List ℕ). bytes_eq n (name x) ≡ true) named g.passes)))) kept
