-- Lists that rise by a relation, and that two such lists with the same members are one.
use Rattle.std.proofs.Common.{List, Some, [], arith, get_or, inl, inr, map, refl, rules, slice_get, subst, suc, sym, ℕ, ◌++◌, ◌<◌, ◌∷◌, ◌≡◌}
use Rattle.std.proofs.lemmas.Option.{get_or_from_slice_get, none-some, slice_get-get_or, slice_get_within}
use Rattle.std.specs.List.{AllPairs, flat_map}
use Rattle.bolt_lemmas.proofs.Members.{at_has, flat_has, has_at, has_left, has_right, has_split, map_has}
use Rattle.bolt_lemmas.specs.Lists.{Each, Has, RisesBy}

module _ {X : Type 0} where
  pub rises_append : (R : X → X → Type 0) (xs ys : List X) → RisesBy R xs → RisesBy R ys → ((x y : X) → Has xs x → Has ys y → R x y)
      → RisesBy R (xs ++ ys)
  rises_append R [] ys a b c = b
  rises_append R (x ∷ xs) ys a b c =
      (λ y h. elim (has_split xs ys y h) [ inl l ↦ a.0 y l | inr r ↦ c x y (inl refl) r ], rises_append R xs ys a.1 b (λ z y h k. c z y (inr h) k))

  pub rises_left : (R : X → X → Type 0) (xs ys : List X) → RisesBy R (xs ++ ys) → RisesBy R xs
  rises_left R [] ys a = tt
  rises_left R (x ∷ xs) ys a = (λ y h. a.0 y (has_left xs ys y h), rises_left R xs ys a.1)

  pub rises_right : (R : X → X → Type 0) (xs ys : List X) → RisesBy R (xs ++ ys) → RisesBy R ys
  rises_right R [] ys a = a
  rises_right R (x ∷ xs) ys a = rises_right R xs ys a.1

  pub rises_across : (R : X → X → Type 0) (xs ys : List X) → RisesBy R (xs ++ ys) → (x y : X) → Has xs x → Has ys y → R x y
  rises_across R [] ys a x y h k = absurd h
  rises_across R (z ∷ xs) ys a x y (inl e) k = let r = a.0 y (has_right xs ys y k) in subst (λ (w : X). R w y) e r
  rises_across R (z ∷ xs) ys a x y (inr h) k = rises_across R xs ys a.1 x y h k

  pub rises_weaker : (R S : X → X → Type 0) (xs : List X) → ((x y : X) → R x y → S x y) → RisesBy R xs → RisesBy S xs
  rises_weaker R S [] f a = tt
  rises_weaker R S (x ∷ xs) f a = (λ y h. f x y (a.0 y h), rises_weaker R S xs f a.1)

  pub rises_from_gets : (R : X → X → Type 0) (xs : List X) → ((i j : ℕ) (a b : X) → i < j → slice_get xs i ≡ Some a → slice_get xs j ≡ Some b → R a b)
      → RisesBy R xs
  rises_from_gets R [] h = tt
  rises_from_gets R (x ∷ xs) h = (
    λ y k. let p = has_at xs y k in h 0 (suc p.0) x y (omega arith) refl p.1,
    rises_from_gets R xs (λ i j a b lt g k. h (suc i) (suc j) a b (omega arith) g k),
  )

  pub rises_gets : (R : X → X → Type 0) (xs : List X) (i j : ℕ) (a b : X) → RisesBy R xs → i < j → slice_get xs i ≡ Some a → slice_get xs j ≡ Some b
      → R a b
  rises_gets R (x ∷ xs) (suc i) (suc j) a b r l g h = rises_gets R xs i j a b r.1 (omega arith) g h
  rises_gets R xs i j a b r l g h = grind (arith, none-some, at_has)

  -- the same over pairs of places
  pub pairs_from_rises : (R : X → X → Type 0) (xs : List X) → RisesBy R xs → AllPairs R xs
  pairs_from_rises R xs a =
      λ i j d h k. rises_gets R xs i j (get_or xs i d) (get_or xs j d) a h (slice_get-get_or xs i d (omega (arith, h, k))) (slice_get-get_or xs j d k)

  pub rises_from_pairs : (R : X → X → Type 0) (xs : List X) → AllPairs R xs → RisesBy R xs
  rises_from_pairs R xs a = search (rules, rises_from_gets, get_or_from_slice_get, slice_get_within)

  -- Two lists that rise by a strict order and have the same members are one.
  module _ (R : X → X → Type 0) (strict : (x y : X) → R x y → R y x → ⊥) where
    same_head : (x y : X) (xs ys : List X) → Each (R x) xs → Each (R y) ys → Has (y ∷ ys) x → Has (x ∷ xs) y → x ≡ y
    same_head x y xs ys a b h k = grind arith

    tail_has : (x z : X) (ys : List X) → R x z → Has (x ∷ ys) z → Has ys z
    tail_has x z ys r h = grind arith

    pub one_list : (xs ys : List X) → RisesBy R xs → RisesBy R ys → ((x : X) → Has xs x → Has ys x) → ((x : X) → Has ys x → Has xs x) → xs ≡ ys
    one_list [] [] a b f g = refl
    one_list [] (y ∷ ys) a b f g = absurd (g y (inl refl))
    one_list (x ∷ xs) [] a b f g = absurd (f x (inl refl))
    one_list (x ∷ xs) (y ∷ ys) a b f g =
        let e : x ≡ y = same_head x y xs ys a.0 b.0 (f x (inl refl)) (g y (inl refl)) in
        let r = one_list xs ys a.1 b.1
        (λ z h. tail_has x z ys (a.0 z h) (let q = f z (inr h) in subst (λ (w : X). Has (w ∷ ys) z) (sym e) q))
        (λ z h. tail_has y z xs (b.0 z h) (let q = g z (inr h) in subst (λ (w : X). Has (w ∷ xs) z) e q)) in
        cc

-- mapped lists, and lists joined
module _ {X Y : Type 0} where
  pub rises_map : (R : Y → Y → Type 0) (f : X → Y) (xs : List X) → RisesBy (λ a b. R (f a) (f b)) xs → RisesBy R (map f xs)
  rises_map R f [] a = tt
  rises_map R f (x ∷ xs) a = (λ y h. let r = map_has f xs y h in (let q = a.0 r.0 r.1 in subst (λ (w : Y). R (f x) w) r.2 q), rises_map R f xs a.1)

  pub rises_flat : (R : Y → Y → Type 0) (f : X → List Y) (xs : List X) → Each (λ x. RisesBy R (f x)) xs
      → RisesBy (λ v w. (a b : Y) → Has (f v) a → Has (f w) b → R a b) xs → RisesBy R (flat_map f xs)
  rises_flat R f [] each a = tt
  rises_flat R f (x ∷ xs) each a = rises_append R (f x) (flat_map f xs) (each x (inl refl)) (rises_flat R f xs (λ y h. each y (inr h)) a.1)
      (λ y z h k. let r = flat_has f xs z k in a.0 r.0 r.1 y z h r.2)
