-- What can be decided: whether two things are the same, what is said of both, of either, or of one if the other is, and what holds of each element of
-- a list, or of one.
use Rattle.std.proofs.Common.{Bool, List, [], false, inl, inr, refl, subst, sym, true, ◌↔◌, ◌∙◌, ◌∷◌, ◌≡◌, ◌⊎◌}
use Rattle.std.proofs.Math.Decide.{map_dec}
use Rattle.std.proofs.lemmas.Bool.{cases_Bool, false≢true}
use Rattle.std.proofs.lemmas.Cmp.{tied_itself}
use Rattle.std.specs.Cmp.{IsTotalOrder}
use Rattle.std.specs.List.{Contains}
use Rattle.std.specs.declared.cmp.Ordering.{Ordering}
use Rattle.std.specs.declared.cmp.Ordering.TheVariants.{Equal, Greater, Less}
use Rattle.bolt_lemmas.proofs.Members.{contains_cases, contains_head, contains_none, contains_tail}
use mathlib.Core.Logic.Dec as decide

abbrev pub says : {P : Type 0} → Dec P → Bool
says (yes p) = true
says (no never) = false

pub says_true : {P : Type 0} (d : Dec P) → says d ≡ true → P
says_true (yes p) e = p
says_true (no never) e = cc

pub true_says : {P : Type 0} (d : Dec P) → P → says d ≡ true
true_says (yes p) q = refl
true_says (no never) q = absurd (never q)

pub dec_either : {P Q : Type 0} → Dec P → Dec Q → Dec (P ⊎ Q)
dec_either (yes p) q = yes (inl p)
dec_either (no never) (yes q) = yes (inr q)
dec_either (no never) (no neither) = no (λ either. elim either [ inl p ↦ never p | inr q ↦ neither q ])

pub dec_if : {P Q : Type 0} → Dec P → Dec Q → Dec (P → Q)
dec_if (yes p) (yes q) = yes (λ h. q)
dec_if (yes p) (no never) = no (λ f. never (f p))
dec_if (no never) q = yes (λ p. absurd (never p))

pub dec_equal : (o : Ordering) → Dec (o ≡ Equal)
dec_equal Less = no (λ e. cc)
dec_equal Equal = yes refl
dec_equal Greater = no (λ e. cc)

-- by an order that tells them apart
pub dec_tied : {A : Type 0} {cmp : A → A → Ordering} → IsTotalOrder cmp → ((a b : A) → cmp a b ≡ Equal → a ≡ b) → (a b : A) → Dec (a ≡ b)
dec_tied {A = A} {cmp = cmp} total exact a b =
    map_dec (exact a b) (λ same. subst (λ (x : A). cmp x b ≡ Equal) (sym same) (tied_itself total b)) (dec_equal (cmp a b))

module _ {A : Type 0} (P : A → Type 0) (dec : (x : A) → Dec (P x)) where
  pub dec_each : (xs : List A) → Dec ((x : A) → Contains xs x → P x)
  dec_each [] = yes (λ x has. absurd (contains_none x has))
  dec_each (x ∷ xs) =
      map_dec (λ both y has. elim (contains_cases x y xs has) [ inl is ↦ subst P is both.0 | inr more ↦ both.1 y more ])
      (λ all. (all x (contains_head x xs), λ y has. all y (contains_tail x y xs has))) (decide.and (dec x) (dec_each xs))

  pub dec_some : (xs : List A) → Dec ((x : A) × Contains xs x × P x)
  dec_some [] = no (λ (x, has, is). contains_none x has)
  dec_some (x ∷ xs) =
      map_dec (λ either. elim either [ inl here ↦ (x, contains_head x xs, here) | inr (y, has, is) ↦ (y, contains_tail x y xs has, is) ])
      (λ (y, has, is). elim (contains_cases x y xs has) [ inl same ↦ inl (subst P (sym same) is) | inr more ↦ inr (y, more, is) ])
      (dec_either (dec x) (dec_some xs))

pub decided_by : {P : Type 0} (b : Bool) → (b ≡ true) ↔ P → Dec P
decided_by b is = elim (cases_Bool b) [ inl passes ↦ yes (is.0 passes) | inr none ↦ no (λ p. false≢true (sym none ∙ is.1 p)) ]
