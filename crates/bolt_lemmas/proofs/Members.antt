-- Members of a list: where they stand, and those of a joined, mapped or flattened list.
use Rattle.std.proofs.Common.{Bool, List, None, Option, Some, [], ap, arith, false, inl, inr, map, refl, slice_get, subst, suc, sym, true, ℕ, ◌++◌, ◌∙◌, ◌∷◌}
use Rattle.std.proofs.Common.{◌≡◌, ◌⊎◌}
use Rattle.std.proofs.Math.Bool.{or-true}
use Rattle.std.proofs.lemmas.Bool.{cases_Bool, or_cases}
use Rattle.std.proofs.lemmas.Option.{get_or_from_slice_get, none-some, slice_get-get_or, slice_get_within}
use Rattle.std.specs.List.{Contains, cons_option, filter_map, flat_map, list_any}
use Rattle.bolt_lemmas.specs.Lists.{Has}

module _ {X : Type 0} where
  pub has_left : (xs ys : List X) (x : X) → Has xs x → Has (xs ++ ys) x
  has_left [] ys x h = absurd h
  has_left (y ∷ xs) ys x (inl e) = inl e
  has_left (y ∷ xs) ys x (inr h) = inr (has_left xs ys x h)

  pub has_right : (xs ys : List X) (x : X) → Has ys x → Has (xs ++ ys) x
  has_right [] ys x h = h
  has_right (y ∷ xs) ys x h = inr (has_right xs ys x h)

  pub has_split : (xs ys : List X) (x : X) → Has (xs ++ ys) x → Has xs x ⊎ Has ys x
  has_split [] ys x h = inr h
  has_split (y ∷ xs) ys x (inl e) = inl (inl e)
  has_split (y ∷ xs) ys x (inr h) = elim (has_split xs ys x h) [ inl l ↦ inl (inr l) | inr r ↦ inr r ]

  -- where a member stands
  pub has_at : (xs : List X) (x : X) → Has xs x → (k : ℕ) × (slice_get xs k ≡ Some x)
  has_at [] x h = absurd h
  has_at (y ∷ xs) x (inl e) = (0, ap (λ (z : X). Some z) e)
  has_at (y ∷ xs) x (inr h) = let r = has_at xs x h in (suc r.0, r.1)

  pub at_has : (xs : List X) (k : ℕ) (x : X) → slice_get xs k ≡ Some x → Has xs x
  at_has (y ∷ xs) (suc k) x e = inr (at_has xs k x e)
  at_has xs k x e = grind (arith, none-some)

  pub contains_from_has : (xs : List X) (x : X) → Has xs x → Contains xs x
  contains_from_has xs x h = let r = has_at xs x h in (r.0, slice_get_within xs r.0 x r.1, get_or_from_slice_get xs r.0 x x r.1)

  pub has_from_contains : (xs : List X) (x : X) → Contains xs x → Has xs x
  has_from_contains xs x (k, within, is) = at_has xs k x (slice_get-get_or xs k x within ∙ ap (λ (z : X). Some z) is)

-- members of a mapped list, and of lists joined
module _ {X Y : Type 0} where
  pub has_map : (f : X → Y) (xs : List X) (x : X) → Has xs x → Has (map f xs) (f x)
  has_map f [] x h = absurd h
  has_map f (y ∷ xs) x (inl e) = inl (ap f e)
  has_map f (y ∷ xs) x (inr h) = inr (has_map f xs x h)

  pub map_has : (f : X → Y) (xs : List X) (y : Y) → Has (map f xs) y → (x : X) × Has xs x × (f x ≡ y)
  map_has f [] y h = absurd h
  map_has f (x ∷ xs) y (inl e) = (x, inl refl, e)
  map_has f (x ∷ xs) y (inr h) = let r = map_has f xs y h in (r.0, inr r.1, r.2)

  pub has_flat : (f : X → List Y) (xs : List X) (x : X) (y : Y) → Has xs x → Has (f x) y → Has (flat_map f xs) y
  has_flat f [] x y h k = absurd h
  has_flat f (z ∷ xs) x y (inl e) k = has_left (f z) (flat_map f xs) y (let q = k in subst (λ (w : X). Has (f w) y) (sym e) q)
  has_flat f (z ∷ xs) x y (inr h) k = has_right (f z) (flat_map f xs) y (has_flat f xs x y h k)

  pub flat_has : (f : X → List Y) (xs : List X) (y : Y) → Has (flat_map f xs) y → (x : X) × Has xs x × Has (f x) y
  flat_has f [] y h = absurd h
  flat_has f (x ∷ xs) y h = elim (has_split (f x) (flat_map f xs) y h) [
    | inl l ↦ (x, inl refl, l)
    | inr r ↦ (let q = flat_has f xs y r in (q.0, inr q.1, q.2))
  ]

pub has_any : {A : Type 0} (p : A → Bool) (xs : List A) → list_any p xs ≡ true → (x : A) × Has xs x × (p x ≡ true)
has_any p [] any = absurd (let f : false ≡ true = any in cc)
has_any p (x ∷ xs) any = elim (or_cases (p x) (list_any p xs) any) [
  | inl here ↦ (x, inl refl, here)
  | inr later ↦ let found = has_any p xs later in (found.0, inr found.1, found.2)
]

pub contains_head : {A : Type 0} (x : A) (xs : List A) → Contains (x ∷ xs) x
contains_head x xs = (0, omega arith, refl)

pub contains_tail : {A : Type 0} (x y : A) (xs : List A) → Contains xs y → Contains (x ∷ xs) y
contains_tail x y xs (k, h, e) = (suc k, omega arith, e)

pub contains_cases : {A : Type 0} (x y : A) (xs : List A) → Contains (x ∷ xs) y → (x ≡ y) ⊎ Contains xs y
contains_cases x y xs h = grind arith

pub contains_none : {A : Type 0} (y : A) → Contains [] y → ⊥
contains_none y (k, h, e) = omega arith

pub any_from : {A : Type 0} (p : A → Bool) (xs : List A) → list_any p xs ≡ true → (x : A) × Contains xs x × (p x ≡ true)
any_from p [] some = cc
any_from p (x ∷ xs) some = elim (cases_Bool (p x)) [
  | inl passes ↦ (x, contains_head x xs, passes)
  | inr fails ↦ let (y, has, also) = any_from p xs (rw fails at some) in (y, contains_tail x y xs has, also)
]

pub any_has : {A : Type 0} (p : A → Bool) (xs : List A) (x : A) → Contains xs x → p x ≡ true → list_any p xs ≡ true
any_has p [] x has passes = absurd (contains_none x has)
any_has p (y ∷ ys) x has passes = elim (contains_cases y x ys has) [
  | inl is ↦ rw (ap p is ∙ passes) refl
  | inr more ↦ rw (any_has p ys x more passes) (or-true (p y))
]

module _ {X Y : Type 0} (f : X → Y) where
  pub shows_from : (xs : List X) (y : Y) → Contains (map f xs) y → (x : X) × Contains xs x × (f x ≡ y)
  shows_from [] y has = absurd (contains_none y has)
  shows_from (x ∷ xs) y has = elim (contains_cases (f x) y (map f xs) has) [
    | inl is ↦ (x, contains_head x xs, is)
    | inr more ↦ let (other, there, is) = shows_from xs y more in (other, contains_tail x other xs there, is)
  ]

  pub shows_has : (xs : List X) (x : X) → Contains xs x → Contains (map f xs) (f x)
  shows_has [] x has = absurd (contains_none x has)
  shows_has (y ∷ xs) x has = elim (contains_cases y x xs has) [
    | inl is ↦ subst (λ (z : X). Contains (map f (y ∷ xs)) (f z)) is (contains_head (f y) (map f xs))
    | inr more ↦ contains_tail (f y) (f x) (map f xs) (shows_has xs x more)
  ]

module _ {X Y : Type 0} (h : X → Option Y) where
  from_step : (o : Option Y) (x : X) (xs : List X) (y : Y) → h x ≡ o → (Contains (filter_map h xs) y → (z : X) × Contains xs z × (h z ≡ Some y))
      → Contains (cons_option o (filter_map h xs)) y
      → (z : X) × Contains (x ∷ xs) z × (h z ≡ Some y)
  from_step None x xs y is later has = let (z, there, found) = later has in (z, contains_tail x z xs there, found)
  from_step (Some w) x xs y is later has = grind (arith, contains_cases, contains_head, contains_tail)

  pub gives_from : (xs : List X) (y : Y) → Contains (filter_map h xs) y → (x : X) × Contains xs x × (h x ≡ Some y)
  gives_from [] y has = absurd (contains_none y has)
  gives_from (x ∷ xs) y has = from_step (h x) x xs y refl (gives_from xs y) has

  has_step : (o : Option Y) (xs : List X) (y : Y) → Contains (filter_map h xs) y → Contains (cons_option o (filter_map h xs)) y
  has_step None xs y has = has
  has_step (Some w) xs y has = contains_tail w y (filter_map h xs) has

  pub gives_has : (xs : List X) (x : X) (y : Y) → Contains xs x → h x ≡ Some y → Contains (filter_map h xs) y
  gives_has [] x y has is = absurd (contains_none x has)
  gives_has (z ∷ xs) x y has is = elim (contains_cases z x xs has) [
    | inl same ↦ subst (λ (o : Option Y). Contains (cons_option o (filter_map h xs)) y) (sym (ap h same ∙ is)) (contains_head y (filter_map h xs))
    | inr more ↦ has_step (h z) xs y (gives_has xs x y more is)
  ]
