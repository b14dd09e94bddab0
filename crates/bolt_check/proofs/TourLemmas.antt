-- Tours: there is at most one, and a visit puts a way before those of what is left.
use Rattle.std.proofs.Common.{arith, ◌≡◌, ℕ, inl, inr, List, [], ◌∷◌, map, Option, Some, None, refl, sym, subst}
use Rattle.bolt_lemmas.proofs.Exports.{has_map, map_has, one_list}
use Rattle.bolt_lemmas.specs.Lists.{RisesBy}
use Rattle.bolt_check.proofs.{Words.Before, Words.Has, Words.IsTour, Words.none-some, Words.Reach, Words.Spot, Visiting.Visits}
use Rattle.bolt_check.proofs.WayOrder.{before_strict}

abbrev pub Ways : Type 0
Ways = List (List ℕ)

pub rises_map : (f : List ℕ → List ℕ) (ways : Ways) → ((a b : List ℕ) → Has ways a → Has ways b → Before a b → Before (f a) (f b))
    → RisesBy Before ways
    → RisesBy Before (map f ways)
rises_map f [] up h = tt
rises_map f (v ∷ ways) up h = (
  λ w i. let p = map_has f ways w i in subst (Before (f v)) p.2 (up v p.0 (inl refl) (inr p.1) (h.0 p.0 p.1)),
  rises_map f ways (λ a b i j. up a b (inr i) (inr j)) h.1,
)

pub one_tour : (reach : Reach) (a b : Ways) → IsTour reach a → IsTour reach b → a ≡ b
one_tour reach a b h k = grind (arith, one_list, before_strict)

module _ {old new : Reach} {o : Option Spot} {first : List ℕ} {f : List ℕ → List ℕ} (v : Visits old new o first f) (tour : Ways) (is : IsTour new tour) where
  map_rises : RisesBy Before (map f tour)
  map_rises = rises_map f tour (λ a b i j. let p = is.only a i in let q = is.only b j in v.rising a b p.0 q.0 p.1 q.1) is.rises

  map_all : (way b : List ℕ) (t : Spot) → way ≡ f b → new b ≡ Some t → Has (map f tour) way
  map_all way b t same leads = subst (λ (z : List ℕ). Has (map f tour) z) (sym same) (has_map f tour b (is.all b t leads))

  map_only : (way : List ℕ) → Has (map f tour) way → (s : Spot) × (old way ≡ Some s)
  map_only way h = grind (arith, map_has)

  -- the ways to what is left, as ways of the whole
  pub tour_map : o ≡ None → IsTour old (map f tour)
  tour_map none = grind (arith, map_rises, none-some, map_all, map_only)

  -- a visit's way, and then the tour of what is left
  pub tour_step : (s : Spot) → o ≡ Some s → IsTour old (first ∷ map f tour)
  tour_step s at = record {
    rises = (
      λ w i. let p = map_has f tour w i in let q = is.only p.0 p.1 in subst (Before first) p.2 (v.after s at p.0 q.0 q.1),
      map_rises,
    );
    all = λ way t e. elim (v.all way t e) [ inl same ↦ inl (sym same.0) | inr (b, (same, leads)) ↦ inr (map_all way b t same leads) ];
    only = λ way i. elim i [ inl same ↦ (s, subst (λ (z : List ℕ). old z ≡ Some s) same (v.leads s at)) | inr h ↦ map_only way h ];
  }
