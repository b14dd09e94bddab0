-- Lists of exactly what is at some places, of which no two are at the same.
use Rattle.std.proofs.Common.{◌≡◌, ◌∙◌, ◌⊎◌, ◌≤◌, ℕ, inl, inr, Bool, true, false, List, [], ◌∷◌, ◌++◌, refl, sym, ap, subst, arith, cond}
use Rattle.std.proofs.lemmas.List.Sorted.{Contains-permutation, IsPermutation-sym, sum_by-IsPermutation}
use Rattle.std.specs.List.{Sorted.IsPermutation, count_by}
use Rattle.std.proofs.lemmas.Bool.{false_from_ne_true}
use Rattle.bolt_lemmas.proofs.Exports.{none_counted}
use Rattle.bolt_recover.proofs.Words.{Contains, Contains-append_cases, Contains-append_left, Contains-append_right, contains_cases, contains_head}
use Rattle.bolt_recover.proofs.Words.{contains_none, sum_by-append}
use Rattle.bolt_recover.specs.States.{AreExactly, PlaceView, is_place}

pub place_is : (a b : PlaceView) → is_place a b ≡ true → a ≡ b
place_is a b e = grind arith

pub place_self : (a : PlaceView) → is_place a a ≡ true
place_self a = grind arith

module _ {X : Type 0} (at : X → PlaceView) where
  pub grow : (Is More : X → Type 0) (xs : List X) (x : X) → AreExactly at Is xs → ((y : X) → Contains xs y → at y ≡ at x → ⊥)
      → ((y : X) → More y → Is y ⊎ (x ≡ y)) → ((y : X) → Is y → More y) → More x → AreExactly at More (xs ++ x ∷ [])
  grow Is More xs x are apart from to own = record {
    exact = λ y. (
      λ has. elim (Contains-append_cases xs (x ∷ []) y has) [
        | inl old ↦ to y ((are.exact y).0 old)
        | inr new ↦ elim (contains_cases x y [] new) [ inl same ↦ subst More same own | inr none ↦ absurd (contains_none y none) ]
      ],
      λ is. elim (from y is) [
        | inl old ↦ Contains-append_left xs (x ∷ []) y ((are.exact y).1 old)
        | inr same ↦ Contains-append_right xs (x ∷ []) y (subst (Contains (x ∷ [])) same (contains_head x []))
      ],
    );
    once = λ place. once_more place (is_place place (at x)) refl;
  }
    where
      once_more : (place : PlaceView) (b : Bool) → is_place place (at x) ≡ b → count_by (λ y. is_place place (at y)) (xs ++ x ∷ []) ≤ 1
      once_more place false is =
          let sum = sum_by-append (λ y. cond (is_place place (at y)) 1 0) xs (x ∷ []) in
          let here : cond {A = ℕ} (is_place place (at x)) 1 0 ≡ 0 = ap (λ b. cond b 1 0) is in
          let old = are.once place in
          omega (arith, sum, here, old)
      once_more place true is =
          let sum = sum_by-append (λ y. cond (is_place place (at y)) 1 0) xs (x ∷ []) in
          let here : cond {A = ℕ} (is_place place (at x)) 1 0 ≡ 1 = ap (λ b. cond b 1 0) is in
          let none =
          none_counted (λ y. is_place place (at y)) xs
          (λ y has. false_from_ne_true _ (λ there. apart y has (sym (place_is place (at y) there) ∙ place_is place (at x) is))) in
          omega (arith, sum, here, none)

  pub stay : (Is More : X → Type 0) (xs : List X) → AreExactly at Is xs → ((y : X) → More y → Is y) → ((y : X) → Is y → More y)
      → AreExactly at More xs
  stay Is More xs are from to = record { exact = λ y. (λ has. to y ((are.exact y).0 has), λ is. (are.exact y).1 (from y is)); once = are.once }

  pub moved : (Is : X → Type 0) (xs ys : List X) → IsPermutation xs ys → AreExactly at Is xs → AreExactly at Is ys
  moved Is xs ys same are = record {
    exact =
        λ y. (
          λ has. (are.exact y).0 (Contains-permutation ys xs y (IsPermutation-sym xs ys same) has),
          λ is. Contains-permutation xs ys y same ((are.exact y).1 is),
        );
    once = λ place. subst (λ n. n ≤ 1) (sym (sum_by-IsPermutation (λ y. cond (is_place place (at y)) 1 0) xs ys same)) (are.once place);
  }
