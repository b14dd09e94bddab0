-- The key of the bucket of a found page: docs/RECOVERY.md, "The joined listing".
use Rattle.std.specs.Prelude.{◌+◌, ◌/◌, ◌%◌, ℕ, zero, suc, List, [], ◌∷◌, ◌++◌}
use Rattle.bolt_check.specs.Keys.{Key}

-- the last `count` decimal digits of a number
abbrev pub last_digits : ℕ → ℕ → List ℕ
last_digits zero n = []
last_digits (suc count) n = last_digits count (n / 10) ++ (48 + n % 10) ∷ []

-- the page's number in sixteen digits
abbrev pub page_key : ℕ → Key
page_key n = last_digits 16 n
