-- The last element of a list, and the last that passes a test.
use Rattle.std.proofs.Common.{Bool, List, None, Option, Some, [], ap, arith, false, filter, inl, inr, refl, subst, sym, true, ◌++◌, ◌∙◌, ◌∷◌, ◌≡◌, ◌⊎◌}
use Rattle.std.proofs.lemmas.Bool.{cases_Bool}
use Rattle.std.proofs.lemmas.Option.{same_Some}
use Rattle.std.specs.List.{Contains, last_or}
use Rattle.std.specs.declared.cmp.Ordering.{Ordering}
use Rattle.std.specs.declared.cmp.Ordering.TheVariants.{Less}
use Rattle.bolt_lemmas.proofs.Filters.{drops, keeps}
use Rattle.bolt_lemmas.proofs.Members.{contains_cases, contains_head, contains_none, contains_tail}
use Rattle.bolt_lemmas.specs.Order.{Rises}

module _ {A : Type 0} where
  pub last_in : (o : Option A) (xs : List A) (x : A) → last_or o xs ≡ Some x → (o ≡ Some x) ⊎ Contains xs x
  last_in o [] x e = inl e
  last_in o (y ∷ ys) x e = grind (arith, same_Some, contains_head, contains_tail, last_in (Some y) ys x e)

  pub last_some : (o : Option A) (xs : List A) (x : A) → last_or None xs ≡ Some x → last_or o xs ≡ Some x
  last_some o [] x e = cc
  last_some o (y ∷ ys) x e = e

  pub last_of_both : (o : Option A) (xs ys : List A) → last_or o (xs ++ ys) ≡ last_or (last_or o xs) ys
  last_of_both o [] ys = refl
  last_of_both o (x ∷ xs) ys = last_of_both (Some x) xs ys

  -- no other comes after it
  pub last_after : (cmp : A → A → Ordering) (o : Option A) (xs : List A) (last x : A) → Rises cmp xs → last_or o xs ≡ Some last → Contains xs x
      → (x ≡ last) ⊎ (cmp x last ≡ Less)
  last_after cmp o [] last x rises e has = absurd (contains_none x has)
  last_after cmp o (y ∷ ys) last x rises e has = elim (contains_cases y x ys has) [
    | inl same ↦ elim (last_in (Some y) ys last e) [
      | inl is ↦ inl (sym same ∙ same_Some y last is)
      | inr more ↦ inr (subst (λ z. cmp z last ≡ Less) same (rises.0 last more))
    ]
    | inr more ↦ last_after cmp (Some y) ys last x rises.1 e more
  ]

  -- a list with an element has a last one
  never_none : (x : A) (xs : List A) → last_or (Some x) xs ≡ None → ⊥
  never_none x [] e = cc
  never_none x (y ∷ ys) e = never_none y ys e

  pub last_there : (o : Option A) (xs : List A) (x : A) → Contains xs x → last_or o xs ≡ None → ⊥
  last_there o [] x has e = contains_none x has
  last_there o (y ∷ ys) x has e = never_none y ys e

  -- if it passes a test, it is the last of those that do
  pub last_passes : (p : A → Bool) (o o' : Option A) (xs : List A) (x : A) → last_or o xs ≡ Some x → p x ≡ true → (o ≡ Some x → o' ≡ Some x)
      → last_or o' (filter p xs) ≡ Some x
  last_passes p o o' [] x e passes same = same e
  last_passes p o o' (y ∷ ys) x e passes same = elim (cases_Bool (p y)) [
    | inl test ↦ rw test (last_passes p (Some y) (Some y) ys x e passes (λ is. is))
    | inr test ↦ rw test (last_passes p (Some y) o' ys x e passes (λ is. let fails = ap p (same_Some y x is) in cc))
  ]

module _ {A : Type 0} (p : A → Bool) (found total : Option A) (old new : List A) (x : A) (first : old ≡ x ∷ new)
    (before : last_or found (filter p old) ≡ total) where
  pub takes_last : p x ≡ true → last_or (Some x) (filter p new) ≡ total
  takes_last passes = sym (ap (last_or found) (keeps p old new x first passes)) ∙ before

  pub skips : p x ≡ false → last_or found (filter p new) ≡ total
  skips fails = sym (ap (last_or found) (drops p old new x first fails)) ∙ before
