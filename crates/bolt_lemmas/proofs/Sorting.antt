-- Sorted lists: there is one of each list, by insertion, and only one if an order tells the elements apart.
use Rattle.std.proofs.Common.{Bool, List, [], ap, arith, false, filter, get_or, inl, inr, refl, subst, suc, sym, zero, ◌+◌, ◌↔◌, ◌∙◌, ◌∷◌, ◌≡◌}
use Rattle.std.proofs.lemmas.Bool.{cases_Bool, cond-false}
use Rattle.std.proofs.lemmas.Cmp.{eq_by_cmp_equiv}
use Rattle.std.proofs.lemmas.List.Elements.{All-contains, All-from_recursion, Contains-get_or, recursion_from_All}
use Rattle.std.proofs.lemmas.List.Kept.{Any-dedup, Contains-from_dedup, IsStrictlySortedBy-dedup}
use Rattle.std.proofs.lemmas.List.MinMax.{ranks_by}
use Rattle.std.proofs.lemmas.List.Sorted.{Contains-permutation, IsPermutation-cons, IsPermutation-insert, IsPermutation-refl, IsPermutation-sym}
use Rattle.std.proofs.lemmas.List.Sorted.{IsPermutation-trans, sorted_far}
use Rattle.std.proofs.lemmas.Map.Keys.{IsDistinct-IsPermutation}
use Rattle.std.specs.Cmp.{Equal-is, IsStrictWeakOrder, IsTotalOrder}
use Rattle.std.specs.List.{Contains, IsDistinct, dedup, dedup_from}
use Rattle.std.specs.List.Sorted.{IsPermutation, IsSorted, IsSortedBy, IsStrictlySortedBy}
use Rattle.std.specs.Ordering.{eq_by_cmp, is_lt, ordering_reverse}
use Rattle.std.specs.declared.cmp.Ordering.{Ordering}
use Rattle.std.specs.declared.cmp.Ordering.TheVariants.{Equal, Less}
use Rattle.bolt_lemmas.proofs.Decisions.{says, says_true, true_says}
use Rattle.bolt_lemmas.proofs.Filters.{kept, kept_from}
use Rattle.bolt_lemmas.proofs.Members.{contains_cases, contains_head, contains_none, contains_tail}
use Rattle.bolt_lemmas.proofs.Rising.{rises_once}
use Rattle.bolt_lemmas.specs.Order.{Rises}

module _ {X : Type 0} (lt : X → X → Bool) where
  abbrev pub Climbs : List X → Type 0
  Climbs [] = Unit {0}
  Climbs (x ∷ xs) = ((y : X) → Contains xs y → lt y x ≡ false) × Climbs xs

  pub climbs_sorted : (xs : List X) → Climbs xs → IsSortedBy lt xs
  climbs_sorted [] up k d low high = absurd (omega arith)
  climbs_sorted (x ∷ []) up k d low high = absurd (omega arith)
  climbs_sorted (x ∷ y ∷ ys) up zero d low high = up.0 y (contains_head y ys)
  climbs_sorted (x ∷ y ∷ ys) up (suc k) d low high = grind (arith, climbs_sorted (y ∷ ys) up.1 k d (omega arith) (omega (arith, high)))

-- sorted, none comes before those in front of it
pub sorted_climbs : {X : Type 0} {lt : X → X → Bool} → IsStrictWeakOrder lt → (xs : List X) → IsSortedBy lt xs → Climbs lt xs
sorted_climbs ranks [] up = tt
sorted_climbs {lt = lt} ranks (x ∷ xs) up = (
  λ y (k, within, is). subst (λ z. lt z x ≡ false) is (sorted_far lt ranks (x ∷ xs) up 0 (suc k) y (omega arith) (omega arith)),
  sorted_climbs ranks xs (λ k d low high. let next : suc k + 1 ≡ suc (k + 1) = omega arith in rw next at (up (suc k) d (omega arith) (omega arith))),
)

module _ {X : Type 0} {R : X → X → Ordering} (total : IsTotalOrder R) where
  -- a list that rises by an order that tells its elements apart has none twice
  pub differ_in : (C : X → X → Ordering) (xs : List X) → ((x y : X) → Contains xs x → Contains xs y → C x y ≡ Less → eq_by_cmp R x y ≡ false) → Rises C xs
      → IsDistinct (eq_by_cmp R) xs
  unfolding IsDistinct
  differ_in C [] apart rises = tt
  differ_in C (x ∷ xs) apart rises = (
    recursion_from_All _ xs (λ k d within.
        let has = Contains-get_or xs k d within in
        apart x (get_or xs k d) (contains_head x xs) (contains_tail x _ xs has) (rises.0 _ has)),
    differ_in C xs (λ y z has also. apart y z (contains_tail x y xs has) (contains_tail x z xs also)) rises.1,
  )

  dedup_from_none : (x : X) (xs : List X) → IsDistinct (eq_by_cmp R) (x ∷ xs) → dedup_from (eq_by_cmp R) x xs ≡ x ∷ xs
  unfolding IsDistinct
  dedup_from_none x [] d = refl
  dedup_from_none x (y ∷ ys) d =
      cond-false (eq_by_cmp R y x) _ _ ((eq_by_cmp_equiv total).symm y x ∙ d.0.0) ∙ ap (λ (l : List X). x ∷ l) (dedup_from_none y ys d.1)

  dedup_none : (xs : List X) → IsDistinct (eq_by_cmp R) xs → dedup (eq_by_cmp R) xs ≡ xs
  dedup_none [] d = refl
  dedup_none (x ∷ xs) d = dedup_from_none x xs d

  pub rises_from : (xs : List X) → IsStrictlySortedBy R xs → Rises R xs
  unfolding IsStrictlySortedBy
  rises_from [] strict = tt
  rises_from (x ∷ xs) strict = (λ y has. All-contains (λ z. R x z ≡ Less) xs y (All-from_recursion _ xs strict.0) has, rises_from xs strict.1)

  climb : (xs : List X) → Rises R xs → Climbs (λ x y. is_lt (R x y)) xs
  climb [] rises = tt
  climb (x ∷ xs) rises = (λ y has. ap is_lt (total.antisymm y x ∙ ap ordering_reverse (rises.0 y has)), climb xs rises.1)

  pub rises_sorted : (xs : List X) → Rises R xs → IsSorted R xs
  rises_sorted xs rises = climbs_sorted (λ x y. is_lt (R x y)) xs (climb xs rises)

  sorted_rises : (xs : List X) → IsDistinct (eq_by_cmp R) xs → IsSorted R xs → Rises R xs
  sorted_rises xs d up = rises_from xs (subst (IsStrictlySortedBy R) (dedup_none xs d) (IsStrictlySortedBy-dedup total (λ x y. refl) xs up))

  moved_distinct : (xs ys : List X) → IsPermutation xs ys → IsDistinct (eq_by_cmp R) xs → IsDistinct (eq_by_cmp R) ys
  moved_distinct xs ys moved d = IsDistinct-IsPermutation (eq_by_cmp R) (eq_by_cmp_equiv total).symm xs ys moved d

  -- sorted, such a list rises
  pub sorted_in : (C : X → X → Ordering) (xs ys : List X) → ((x y : X) → Contains xs x → Contains xs y → C x y ≡ Less → eq_by_cmp R x y ≡ false)
      → Rises C xs → IsPermutation xs ys
      → IsSorted R ys → Rises R ys
  sorted_in C xs ys apart rises moved up = sorted_rises ys (moved_distinct xs ys moved (differ_in C xs apart rises)) up

  pub sorted_once : (xs ys zs : List X) → IsDistinct (eq_by_cmp R) xs → IsPermutation xs ys → IsPermutation xs zs → IsSorted R ys → IsSorted R zs
      → ys ≡ zs
  sorted_once xs ys zs d to_ys to_zs up also =
      rises_once total ys zs (sorted_rises ys (moved_distinct xs ys to_ys d) up) (sorted_rises zs (moved_distinct xs zs to_zs d) also)
      (λ z has. Contains-permutation xs zs z to_zs (Contains-permutation ys xs z (IsPermutation-sym xs ys to_ys) has))
      (λ z has. Contains-permutation xs ys z to_ys (Contains-permutation zs xs z (IsPermutation-sym xs zs to_zs) has))

module _ {X : Type 0} (lt : X → X → Bool) (ranks : IsStrictWeakOrder lt) where
  put_in : (x : X) (ys : List X) → Climbs lt ys → (zs : List X) × IsPermutation (x ∷ ys) zs × Climbs lt zs
  put_in x [] climbs = (x ∷ [], IsPermutation-refl _, (λ y none. absurd (contains_none y none), tt))
  put_in x (y ∷ ys) climbs = elim (cases_Bool (lt y x)) [
    | inl before ↦
        let (zs, moved, up) = put_in x ys climbs.1 in (
          y ∷ zs,
          IsPermutation-trans _ _ _ (IsPermutation-insert (y ∷ ys) 1 x) (IsPermutation-cons y _ _ moved),
          (
            λ z has. elim (contains_cases x z ys (Contains-permutation zs (x ∷ ys) z (IsPermutation-sym (x ∷ ys) zs moved) has)) [
              | inl is ↦ subst (λ w. lt w y ≡ false) is (ranks.one_way y x before)
              | inr more ↦ climbs.0 z more
            ],
            up,
          ),
        )
    | inr after ↦ (
      x ∷ y ∷ ys,
      IsPermutation-refl _,
      (
        λ z has. elim (contains_cases y z ys has) [
          | inl is ↦ subst (λ w. lt w x ≡ false) is after
          | inr more ↦ ranks.chain z y x (climbs.0 z more) after
        ],
        climbs,
      ),
    )
  ]

  climbing : (xs : List X) → (zs : List X) × IsPermutation xs zs × Climbs lt zs
  climbing [] = ([], IsPermutation-refl _, tt)
  climbing (x ∷ xs) =
      let (ys, moved, up) = climbing xs in
      let (zs, put, climbs) = put_in x ys up in
      (zs, IsPermutation-trans _ _ _ (IsPermutation-cons x _ _ moved) put, climbs)

  pub sorted_exists : (xs : List X) → (sorted : List X) × IsPermutation xs sorted × IsSortedBy lt sorted
  sorted_exists xs = let (sorted, moved, climbs) = climbing xs in (sorted, moved, climbs_sorted lt sorted climbs)

module _ {A : Type 0} {cmp : A → A → Ordering} (total : IsTotalOrder cmp) where
  pub sorted_elements : (xs : List A) → ((x y : A) → Contains xs x → Contains xs y → cmp x y ≡ Equal → x ≡ y)
      → (ys : List A) × Rises cmp ys × ((y : A) → Contains ys y ↔ Contains xs y)
  sorted_elements xs exact =
      let (sorted, moved, up) = sorted_exists (λ (a b : A). is_lt (cmp a b)) (ranks_by total (λ (x : A). x)) xs in
      let once = dedup (eq_by_cmp cmp) sorted in
      let was : (y : A) → Contains once y → Contains xs y =
      λ y has. Contains-permutation sorted xs y (IsPermutation-sym xs sorted moved) (Contains-from_dedup (eq_by_cmp cmp) sorted y has) in (
        once,
        rises_from total once (IsStrictlySortedBy-dedup total (λ x y. refl) sorted up),
        λ y. (
          was y,
          λ has.
              let (k, other, lt, at, tied) = Any-dedup (eq_by_cmp_equiv total) sorted y (Contains-permutation xs sorted y moved has) in
              let there : Contains once other = (k, lt, at) in
              subst (Contains once) (sym (exact y other has (was other there) ((Equal-is (cmp y other)).0 tied))) there,
        ),
      )

  module _ (P : A → Type 0) (dec : (x : A) → Dec (P x)) where
    pub sorted_choice : (xs : List A) → ((x y : A) → Contains xs x → P x → Contains xs y → P y → cmp x y ≡ Equal → x ≡ y)
        → (ys : List A) × Rises cmp ys × ((y : A) → Contains ys y ↔ (Contains xs y × P y))
    sorted_choice xs exact =
        let holds = λ (x : A). says (dec x) in
        let those : (y : A) → Contains (filter holds xs) y → Contains xs y × P y = λ y has. let (there, e) = kept_from holds xs y has in
        (there, says_true (dec y) e) in
        let (ys, rises, are) =
        sorted_elements (filter holds xs)
        (λ x y has also. let (there, is) = those x has in let (here, holds_of) = those y also in exact x y there is here holds_of) in
        (ys, rises, λ y. (λ has. those y ((are y).0 has), λ (has, is). (are y).1 (kept holds xs y has (true_says (dec y) is))))
