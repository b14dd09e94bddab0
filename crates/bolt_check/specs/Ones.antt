-- What there is at most one of.
use Rattle.std.specs.Prelude.{◌≡◌}

-- two that are so are the same
abbrev pub AtMostOne : {A : Type 0} → (A → Type 0) → Type 0
AtMostOne {A} Is = (a b : A) → Is a → Is b → a ≡ b
