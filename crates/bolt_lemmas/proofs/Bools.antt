-- Tests that agree, and what is said of both of two.
use Rattle.std.proofs.Common.{Bool, arith, true, ◌&&◌, ◌||◌, ◌↔◌, ◌≡◌, ◌⊎◌}
use Rattle.std.proofs.lemmas.Bool.{or_cases, or_left, or_right}

pub same_bool : (a b : Bool) → (a ≡ true → b ≡ true) → (b ≡ true → a ≡ true) → a ≡ b
same_bool a b there back = grind arith

-- either of two facts that are told
pub either_or : (a b : Bool) (A B C : Type 0) → (a ≡ true) ↔ A → (b ≡ true) ↔ B → (A → C) → (B → C) → (C → A ⊎ B) → ((a || b) ≡ true) ↔ C
either_or a b A B C of_a of_b from_a from_b to = grind (arith, or_cases, or_left, or_right)

pub iff_then : {A B C : Type 0} → A ↔ B → B ↔ C → A ↔ C
iff_then f g = (λ a. g.0 (f.0 a), λ c. f.1 (g.1 c))

pub few_or_fits : (a b c : Bool) → (a || (b && c)) ≡ true → (a ≡ true) ⊎ ((b ≡ true) × (c ≡ true))
few_or_fits a b c h = grind arith
