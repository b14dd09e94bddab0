-- Counts that saturate.
use Rattle.std.specs.Prelude.{ℕ, ◌+◌, ◌-◌, ◌^◌, min}

-- a number, at most 2^64 - 1
abbrev pub saturated : ℕ → ℕ
saturated n = min n (2 ^ 64 - 1)

-- a count after `n` more, at most 2^64 - 1
abbrev pub counted : ℕ → ℕ → ℕ
counted old n = saturated (old + n)
