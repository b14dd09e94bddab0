-- What a filter keeps of a list: all, nothing, as much as another; and of a rising list first the least that it keeps. And the first element that passes a
-- test.
use Rattle.std.proofs.Common.{Bool, List, None, Option, Some, [], ap, arith, cond, false, filter, inl, inr, length, map, not, refl, subst, sym, true, ◌&&◌, ◌<◌}
use Rattle.std.proofs.Common.{◌∙◌, ◌∷◌, ◌≡◌, ◌⊎◌}
use Rattle.std.proofs.Math.Bool.{and_comm}
use Rattle.std.proofs.lemmas.Bool.{cases_Bool, cond-false, cond-true, false_from_ne_true}
use Rattle.std.proofs.lemmas.Cmp.{tied_itself}
use Rattle.std.proofs.lemmas.List.Elements.{All-contains, All-contains_itself, All-filter, filter_passes}
use Rattle.std.proofs.lemmas.List.Filters.{length-filter_both}
use Rattle.std.proofs.lemmas.Option.{same_Some}
use Rattle.std.specs.Cmp.{IsTotalOrder}
use Rattle.std.specs.List.{Contains, find}
use Rattle.std.specs.Ordering.{is_lt}
use Rattle.std.specs.declared.cmp.Ordering.{Ordering}
use Rattle.std.specs.declared.cmp.Ordering.TheVariants.{Less}
use Rattle.bolt_lemmas.proofs.Members.{contains_cases, contains_head, contains_none, contains_tail}
use Rattle.bolt_lemmas.proofs.Orderings.{flip_less, lt_of, not_lt_of}
use Rattle.bolt_lemmas.specs.Order.{Rises}

pub filter_same : {A : Type 0} (f g : A → Bool) (xs : List A) → ((x : A) → Contains xs x → f x ≡ g x) → filter f xs ≡ filter g xs
filter_same f g [] same = refl
filter_same f g (x ∷ xs) same =
    let here = same x (contains_head x xs) in
    let later = filter_same f g xs (λ y h. same y (contains_tail x y xs h)) in
    rw here (ap (λ ys. cond (g x) (x ∷ ys) ys) later)

pub filter_none : {A : Type 0} (f : A → Bool) (xs : List A) → ((x : A) → Contains xs x → f x ≡ false) → filter f xs ≡ []
filter_none f [] none = refl
filter_none f (x ∷ xs) none = rw (none x (contains_head x xs)) (filter_none f xs (λ y h. none y (contains_tail x y xs h)))

pub filter_all : {A : Type 0} (f : A → Bool) (xs : List A) → ((x : A) → Contains xs x → f x ≡ true) → filter f xs ≡ xs
filter_all f [] all = refl
filter_all f (x ∷ xs) all = rw (all x (contains_head x xs)) (ap (λ ys. x ∷ ys) (filter_all f xs (λ y h. all y (contains_tail x y xs h))))

-- Of what a test keeps, m is the first: it is a member, what stands behind it is kept too, and nothing before it.
module _ {A : Type 0} {cmp : A → A → Ordering} (o : IsTotalOrder cmp) (f : A → Bool) (m : A)
    (up : (x : A) → cmp m x ≡ Less → f x ≡ true) where
  at : (y : A) (ys : List A) → Rises cmp (y ∷ ys) → f m ≡ true → ((x : A) → Contains (y ∷ ys) x → f x ≡ true → is_lt (cmp x m) ≡ false)
      → (Contains ys m → filter f ys ≡ m ∷ filter (λ x. is_lt (cmp m x)) ys)
      → (y ≡ m) ⊎ Contains ys m → filter f (y ∷ ys) ≡ m ∷ filter (λ x. is_lt (cmp m x)) (y ∷ ys)
  at y ys r kept first later (inl e) =
      let below : (x : A) → Contains ys x → cmp m x ≡ Less = subst (λ (z : A). (x : A) → Contains ys x → cmp z x ≡ Less) e r.0 in
      grind (arith, tied_itself, filter_same, lt_of)
  at y ys r kept first later (inr h) =
      let before : cmp y m ≡ Less = r.0 m h in
      grind (arith, false_from_ne_true, contains_head, lt_of, not_lt_of, flip_less)

  pub filter_first : (xs : List A) → Rises cmp xs → Contains xs m → f m ≡ true → ((x : A) → Contains xs x → f x ≡ true → is_lt (cmp x m) ≡ false)
      → filter f xs ≡ m ∷ filter (λ x. is_lt (cmp m x)) xs
  filter_first [] r h kept first = absurd (contains_none m h)
  filter_first (y ∷ ys) r h kept first =
      at y ys r kept first (λ g. filter_first ys r.1 g kept (λ x k. first x (contains_tail y x ys k))) (contains_cases y m ys h)

-- what passes is kept, and where one doesn't pass, fewer are left
pub kept : {A : Type 0} (p : A → Bool) (xs : List A) (y : A) → Contains xs y → p y ≡ true → Contains (filter p xs) y
kept p [] y h e = absurd (contains_none y h)
kept p (x ∷ xs) y h e = elim (contains_cases x y xs h) [
  | inl s ↦ rw (ap p s ∙ e) (subst (λ z. Contains (x ∷ filter p xs) z) s (contains_head x (filter p xs)))
  | inr g ↦ later x (filter p xs) y (p x) (kept p xs y g e)
]
  where
    later : {A : Type 0} (x : A) (ys : List A) (y : A) (b : Bool) → Contains ys y → Contains (cond b (x ∷ ys) ys) y
    later x ys y true h = contains_tail x y ys h
    later x ys y false h = h

pub filter_less : {A : Type 0} (p : A → Bool) (xs : List A) (y : A) → Contains xs y → p y ≡ false → length (filter p xs) < length xs
filter_less p xs y h out = omega (arith, length-filter_both p (λ x. not (p x)) (λ x. refl) xs, (kept (λ x. not (p x)) xs y h (ap not out)).1)

-- what a filter keeps is of the list, passes, and rises as the list does
pub kept_from : {A : Type 0} (p : A → Bool) (xs : List A) (y : A) → Contains (filter p xs) y → Contains xs y × (p y ≡ true)
kept_from p xs y has = (
  All-contains (Contains xs) (filter p xs) y (All-filter p (Contains xs) xs (All-contains_itself xs)) has,
  All-contains (λ x. p x ≡ true) (filter p xs) y (filter_passes p xs) has,
)

kept_rises : {A : Type 0} (cmp : A → A → Ordering) (p : A → Bool) (x : A) (xs : List A) (b : Bool) → Rises cmp (x ∷ xs) → Rises cmp (filter p xs)
    → Rises cmp (cond b (x ∷ filter p xs) (filter p xs))
kept_rises cmp p x xs true rises later = (λ y has. rises.0 y (kept_from p xs y has).0, later)
kept_rises cmp p x xs false rises later = later

pub filter_rises : {A : Type 0} (cmp : A → A → Ordering) (p : A → Bool) (xs : List A) → Rises cmp xs → Rises cmp (filter p xs)
filter_rises cmp p [] rises = tt
filter_rises cmp p (x ∷ xs) rises = kept_rises cmp p x xs (p x) rises (filter_rises cmp p xs rises.1)

-- two filters, either way round
cond_both : {A : Type 0} (a b : Bool) (x : A) (p : A → Bool) (xs : List A) → p x ≡ a
    → filter p (cond b (x ∷ xs) xs) ≡ cond (a && b) (x ∷ filter p xs) (filter p xs)
cond_both h a x p xs e = grind (arith, cond-true, cond-false)

pub filter_both : {A : Type 0} (p q : A → Bool) (xs : List A) → filter p (filter q xs) ≡ filter (λ x. p x && q x) xs
filter_both p q [] = refl
filter_both p q (x ∷ xs) = cond_both (p x) (q x) x p (filter q xs) refl ∙ ap (λ ys. cond (p x && q x) (x ∷ ys) ys) (filter_both p q xs)

pub filters_swap : {A : Type 0} (p q : A → Bool) (xs : List A) → filter p (filter q xs) ≡ filter q (filter p xs)
filters_swap p q xs = filter_both p q xs ∙ filter_same _ _ xs (λ x has. and_comm (p x) (q x)) ∙ sym (filter_both q p xs)

-- what is kept by what its elements show
mapped_step : {A B : Type 0} (f : A → B) (p : B → Bool) (x : A) (xs : List A) (b : Bool) → map f (filter (λ y. p (f y)) xs) ≡ filter p (map f xs)
    → map f (cond b (x ∷ filter (λ y. p (f y)) xs) (filter (λ y. p (f y)) xs)) ≡ cond b (f x ∷ filter p (map f xs)) (filter p (map f xs))
mapped_step f p x xs true later = ap (λ ys. f x ∷ ys) later
mapped_step f p x xs false later = later

pub filter_mapped : {A B : Type 0} (f : A → B) (p : B → Bool) (xs : List A) → map f (filter (λ y. p (f y)) xs) ≡ filter p (map f xs)
filter_mapped f p [] = refl
filter_mapped f p (x ∷ xs) = mapped_step f p x xs (p (f x)) (filter_mapped f p xs)

-- the first of a list, if it is kept
module _ {A : Type 0} (p : A → Bool) (old new : List A) (x : A) (first : old ≡ x ∷ new) where
  pub keeps : p x ≡ true → filter p old ≡ x ∷ filter p new
  keeps passes = ap (filter p) first ∙ cond-true (p x) (x ∷ filter p new) (filter p new) passes

  pub drops : p x ≡ false → filter p old ≡ filter p new
  drops fails = ap (filter p) first ∙ cond-false (p x) (x ∷ filter p new) (filter p new) fails

abbrev pub Finds : {A : Type 0} → (A → Bool) → List A → Option A → Type 0
Finds p xs (Some x) = Contains xs x × (p x ≡ true)
Finds {A} p xs None = (x : A) → Contains xs x → p x ≡ false

find_step : {A : Type 0} (p : A → Bool) (y : A) (ys : List A) (b : Bool) → p y ≡ b → (o : Option A) → Finds p ys o
    → Finds p (y ∷ ys) (cond b (Some y) o)
find_step p y ys true test o later = (contains_head y ys, test)
find_step p y ys false test (Some x) later = (contains_tail y x ys later.0, later.1)
find_step p y ys false test None later = λ x has. elim (contains_cases y x ys has) [ inl is ↦ ap p (sym is) ∙ test | inr more ↦ later x more ]

pub finds : {A : Type 0} (p : A → Bool) (xs : List A) → Finds p xs (find p xs)
finds p [] = λ x has. absurd (contains_none x has)
finds p (y ∷ ys) = find_step p y ys (p y) refl (find p ys) (finds p ys)

abbrev pub IsFound : {A : Type 0} → (A → Bool) → List A → A → Type 0
IsFound {A} p xs x = (rest : List A) × (filter p xs ≡ x ∷ rest) × Contains xs x × (p x ≡ true)

pub found_there : {A : Type 0} (p : A → Bool) (xs : List A) (x : A) → find p xs ≡ Some x → IsFound p xs x
found_there p [] x e = cc
found_there p (y ∷ ys) x e = elim (cases_Bool (p y)) [
  | inl is ↦
      let same = same_Some y x (rw is at e) in
      (filter p ys, cond-true (p y) _ _ is ∙ ap (λ z. z ∷ filter p ys) same, subst (Contains (y ∷ ys)) same (contains_head y ys), ap p (sym same) ∙ is)
  | inr fails ↦
      let (rest, are, has, passes) = found_there p ys x (rw fails at e) in
      (rest, cond-false (p y) _ _ fails ∙ are, contains_tail y x ys has, passes)
]
