-- Members of a list, and lists that rise.
use Rattle.std.specs.Prelude.{List, [], ◌∷◌, ◌≡◌, ◌⊎◌}

-- x is a member
abbrev pub Has : {X : Type 0} → List X → X → Type 0
Has [] x = ⊥
Has (y ∷ ys) x = (y ≡ x) ⊎ Has ys x

-- P holds of each member
abbrev pub Each : {X : Type 0} → (X → Type 0) → List X → Type 0
Each {X} P xs = (x : X) → Has xs x → P x

-- R holds of each member and each later one
abbrev pub RisesBy : {X : Type 0} → (X → X → Type 0) → List X → Type 0
RisesBy R [] = Unit {0}
RisesBy R (x ∷ xs) = Each (R x) xs × RisesBy R xs
