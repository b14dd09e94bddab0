-- The order of ways is strict and total.
use Rattle.std.proofs.Common.{◌≡◌, ℕ, ◌⊎◌, inl, inr, List, [], ◌∷◌, refl, arith}
use Rattle.bolt_check.proofs.Words.{Before, cases_order}

pub before_irreflexive : (v : List ℕ) → Before v v → ⊥
before_irreflexive [] h = h
before_irreflexive (i ∷ v) (inl h) = omega arith
before_irreflexive (i ∷ v) (inr h) = before_irreflexive v h.1

pub before_trans : (u v w : List ℕ) → Before u v → Before v w → Before u w
before_trans u v [] h k = k
before_trans u [] (c ∷ w) h k = absurd h
before_trans [] (b ∷ v) (c ∷ w) h k = tt
before_trans (a ∷ u) (b ∷ v) (c ∷ w) (inl h) (inl k) = inl (omega arith)
before_trans (a ∷ u) (b ∷ v) (c ∷ w) (inl h) (inr k) = inl (let e : b ≡ c = k.0 in omega arith)
before_trans (a ∷ u) (b ∷ v) (c ∷ w) (inr h) (inl k) = inl (let e : a ≡ b = h.0 in omega arith)
before_trans (a ∷ u) (b ∷ v) (c ∷ w) (inr h) (inr k) = inr (let e : a ≡ b = h.0 in let d : b ≡ c = k.0 in omega arith, before_trans u v w h.1 k.1)

pub before_total : (v w : List ℕ) → (v ≡ w) ⊎ (Before v w ⊎ Before w v)
before_total [] [] = inl refl
before_total [] (j ∷ w) = inr (inl tt)
before_total (i ∷ v) [] = inr (inr tt)
before_total (i ∷ v) (j ∷ w) = grind (arith, cases_order, before_total v w)

pub before_strict : (v w : List ℕ) → Before v w → Before w v → ⊥
before_strict v w h k = before_irreflexive v (before_trans v w v h k)
