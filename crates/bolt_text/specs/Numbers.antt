-- Numbers in decimal: docs/COMMANDS.md, "Arguments".
use Rattle.std.specs.Prelude.{◌&&◌, ◌-◌, ◌*◌, ◌+◌, ◌^◌, ℕ, Bool, [], ◌∷◌, Option, Some, None, length, nat_lt, if◌then◌else◌}
use Rattle.std.specs.Str.{all_ascii_digits}
use Rattle.bolt_text.specs.Lines.{Text}

-- the number that decimal digits stand for, of which '0' is 48: each has the weight of its place
abbrev pub decimal_value : Text → ℕ
decimal_value [] = 0
decimal_value (digit ∷ rest) = (digit - 48) * 10 ^ length rest + decimal_value rest

-- digits alone, one or more, of a number below 2 ^ 64
abbrev pub is_number : Text → Bool
is_number word = nat_lt 0 (length word) && all_ascii_digits word && nat_lt (decimal_value word) (2 ^ 64)

abbrev pub number_in : Text → Option ℕ
number_in word = if is_number word then Some (decimal_value word) else None
