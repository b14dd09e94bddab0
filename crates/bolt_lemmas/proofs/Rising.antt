-- Lists that rise in an order: their parts, their elements, and that two of the same members are one.
use Rattle.std.proofs.Common.{List, [], arith, inl, inr, length, map, rules, subst, sym, ◌++◌, ◌∙◌, ◌∷◌, ◌≡◌, ◌≤◌, ◌⊎◌}
use Rattle.std.proofs.lemmas.List.Elements.{Contains-append_cases, Contains-append_left, Contains-append_right, Contains-push_cases}
use Rattle.std.specs.Cmp.{IsTotalOrder}
use Rattle.std.specs.List.{Contains}
use Rattle.std.specs.declared.cmp.Ordering.{Ordering}
use Rattle.std.specs.declared.cmp.Ordering.TheVariants.{Less}
use Rattle.bolt_lemmas.proofs.Members.{contains_cases, contains_from_has, contains_head, contains_none, contains_tail, has_from_contains, shows_from}
use Rattle.bolt_lemmas.proofs.Orderings.{asymmetric, irreflexive}
use Rattle.bolt_lemmas.proofs.RisingBy.{one_list}
use Rattle.bolt_lemmas.specs.Lists.{RisesBy}
use Rattle.bolt_lemmas.specs.Order.{Rises}

-- Two rising lists of the same members are the same.
module _ {A : Type 0} {cmp : A → A → Ordering} (o : IsTotalOrder cmp) where
  rises_by : (xs : List A) → Rises cmp xs → RisesBy (λ x y. cmp x y ≡ Less) xs
  rises_by [] r = tt
  rises_by (x ∷ xs) r = (λ y h. r.0 y (contains_from_has xs y h), rises_by xs r.1)

  pub rises_once : (xs ys : List A) → Rises cmp xs → Rises cmp ys → ((z : A) → Contains xs z → Contains ys z)
      → ((z : A) → Contains ys z → Contains xs z) → xs ≡ ys
  rises_once xs ys r s to from = search (rules, one_list, asymmetric, rises_by, has_from_contains, contains_from_has)

-- lists that rise, one after the other
pub joined_rises : {A : Type 0} (cmp : A → A → Ordering) (xs ys : List A) → Rises cmp xs → Rises cmp ys
    → ((x y : A) → Contains xs x → Contains ys y → cmp x y ≡ Less) → Rises cmp (xs ++ ys)
joined_rises cmp [] ys r s between = s
joined_rises cmp (x ∷ xs) ys r s between = (
  λ y h. elim (Contains-append_cases xs ys y h) [ inl a ↦ r.0 y a | inr b ↦ between x y (contains_head x xs) b ],
  joined_rises cmp xs ys r.1 s (λ a b h k. between a b (contains_tail x a xs h) k),
)

pub left_rises : {A : Type 0} (cmp : A → A → Ordering) (xs ys : List A) → Rises cmp (xs ++ ys) → Rises cmp xs
left_rises cmp [] ys r = tt
left_rises cmp (x ∷ xs) ys r = (λ y h. r.0 y (Contains-append_left xs ys y h), left_rises cmp xs ys r.1)

pub right_rises : {A : Type 0} (cmp : A → A → Ordering) (xs ys : List A) → Rises cmp (xs ++ ys) → Rises cmp ys
right_rises cmp [] ys r = r
right_rises cmp (x ∷ xs) ys r = right_rises cmp xs ys r.1

pub rises_push : {A : Type 0} (cmp : A → A → Ordering) (xs : List A) (x : A) → Rises cmp xs → ((y : A) → Contains xs y → cmp y x ≡ Less)
    → Rises cmp (xs ++ x ∷ [])
rises_push {A = A} cmp [] x rises below = (λ y has. absurd (contains_none y has), tt)
rises_push {A = A} cmp (z ∷ xs) x rises below = (
  λ y has. elim (Contains-push_cases xs x y has) [ inl there ↦ rises.0 y there | inr is ↦ subst (λ (w : A). cmp z w ≡ Less) is (below z (contains_head z xs)) ],
  rises_push cmp xs x rises.1 (λ y has. below y (contains_tail z y xs has)),
)

-- by another order, if that has its elements in the same order
pub rises_as : {A : Type 0} (old new : A → A → Ordering) (xs : List A)
    → ((a b : A) → Contains xs a → Contains xs b → old a b ≡ Less → new a b ≡ Less) → Rises old xs → Rises new xs
rises_as old new [] same rises = tt
rises_as old new (x ∷ xs) same rises = (
  λ y has. same x y (contains_head x xs) (contains_tail x y xs has) (rises.0 y has),
  rises_as old new xs (λ a b has also. same a b (contains_tail x a xs has) (contains_tail x b xs also)) rises.1,
)

-- of two elements one comes before the other, or they are one
pub rising_cases : {A : Type 0} (cmp : A → A → Ordering) (xs : List A) (a b : A) → Rises cmp xs → Contains xs a → Contains xs b
    → (a ≡ b) ⊎ ((cmp a b ≡ Less) ⊎ (cmp b a ≡ Less))
rising_cases cmp [] a b rises has also = absurd (contains_none a has)
rising_cases cmp (x ∷ xs) a b rises has also = elim (contains_cases x a xs has) [
  | inl first ↦ elim (contains_cases x b xs also) [
    | inl second ↦ inl (sym first ∙ second)
    | inr more ↦ inr (inl (subst (λ z. cmp z b ≡ Less) first (rises.0 b more)))
  ]
  | inr more ↦ elim (contains_cases x b xs also) [
    | inl second ↦ inr (inr (subst (λ z. cmp z a ≡ Less) second (rises.0 a more)))
    | inr others ↦ rising_cases cmp xs a b rises.1 more others
  ]
]

-- two of the same key are one
pub one_of : {A K : Type 0} {cmp : K → K → Ordering} → IsTotalOrder cmp → (key : A → K) (xs : List A) (a b : A)
    → Rises (λ x y. cmp (key x) (key y)) xs → Contains xs a → Contains xs b
    → key a ≡ key b → a ≡ b
one_of {cmp = cmp} total key xs a b rises has also same = elim (rising_cases (λ x y. cmp (key x) (key y)) xs a b rises has also) [
  | inl is ↦ is
  | inr (inl less) ↦ absurd (irreflexive total (key b) (subst (λ k. cmp k (key b) ≡ Less) same less))
  | inr (inr less) ↦ absurd (irreflexive total (key b) (subst (λ k. cmp (key b) k ≡ Less) same less))
]

pub rises_mapped : {A B : Type 0} (f : A → B) (cmp : B → B → Ordering) (xs : List A) → Rises (λ a b. cmp (f a) (f b)) xs → Rises cmp (map f xs)
rises_mapped f cmp [] rises = tt
rises_mapped f cmp (x ∷ xs) rises =
    (λ y has. let (a, there, is) = shows_from f xs y has in subst (λ z. cmp (f x) z ≡ Less) is (rises.0 a there), rises_mapped f cmp xs rises.1)

-- if each element of one list is in another, it has no more
pub fewer : {A : Type 0} {cmp : A → A → Ordering} → IsTotalOrder cmp → (ys xs : List A) → Rises cmp xs → Rises cmp ys
    → ((x : A) → Contains xs x → Contains ys x) → length xs ≤ length ys
fewer {cmp = cmp} total [] [] up rises all = omega arith
fewer {cmp = cmp} total [] (x ∷ xs) up rises all = absurd (contains_none x (all x (contains_head x xs)))
fewer {cmp = cmp} total (y ∷ ys) [] up rises all = omega arith
fewer {cmp = cmp} total (y ∷ ys) (x ∷ xs) up rises all = elim (contains_cases y x ys (all x (contains_head x xs))) [
  | inl same ↦
      let less = fewer total ys xs up.1 rises.1 (λ z has. elim (contains_cases y z ys (all z (contains_tail x z xs has))) [
        | inl is ↦ absurd (irreflexive total x (subst (λ w. cmp x w ≡ Less) (sym is ∙ same) (up.0 z has)))
        | inr later ↦ later
      ]) in
      omega (arith, less)
  | inr later ↦
      let less = fewer total ys (x ∷ xs) up rises.1 (λ z has. elim (contains_cases y z ys (all z has)) [
        | inl is ↦ elim (contains_cases x z xs has) [
          | inl at ↦ subst (Contains ys) at later
          | inr more ↦ absurd (irreflexive total y (total.trans y x y (rises.0 x later) (up.0 y (subst (Contains xs) (sym is) more))))
        ]
        | inr others ↦ others
      ]) in
      omega (arith, less)
]

module _ {A : Type 0} (r : A) where
  put_back : (xs ys : List A) (x : A) → Contains (xs ++ ys) x → Contains (xs ++ r ∷ ys) x
  put_back xs ys x has = elim (Contains-append_cases xs ys x has) [
    | inl first ↦ Contains-append_left xs (r ∷ ys) x first
    | inr second ↦ Contains-append_right xs (r ∷ ys) x (contains_tail r x ys second)
  ]

  module _ (cmp : A → A → Ordering) where
    pub without_rises : (xs ys : List A) → Rises cmp (xs ++ r ∷ ys) → Rises cmp (xs ++ ys)
    without_rises [] ys rises = rises.1
    without_rises (x ∷ xs) ys rises = (λ y has. rises.0 y (put_back xs ys y has), without_rises xs ys rises.1)

    pub before_it : (xs ys : List A) (x : A) → Rises cmp (xs ++ r ∷ ys) → Contains xs x → cmp x r ≡ Less
    before_it [] ys x rises has = absurd (contains_none x has)
    before_it (z ∷ xs) ys x rises has = elim (contains_cases z x xs has) [
      | inl same ↦ subst (λ (w : A). cmp w r ≡ Less) same (rises.0 r (Contains-append_right xs (r ∷ ys) r (contains_head r ys)))
      | inr more ↦ before_it xs ys x rises.1 more
    ]

    pub after_it : (xs ys : List A) (x : A) → Rises cmp (xs ++ r ∷ ys) → Contains ys x → cmp r x ≡ Less
    after_it [] ys x rises has = rises.0 x has
    after_it (z ∷ xs) ys x rises has = after_it xs ys x rises.1 has
