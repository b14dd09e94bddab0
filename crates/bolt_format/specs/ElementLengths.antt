-- The lengths that keys and values have in a file: docs/FORMAT.md, "The tests of a page".
use Rattle.std.specs.Prelude.{◌≤◌, ℕ, length}
use Rattle.bolt_format.specs.Elements.{LeafElement}

-- a key has from 1 to 2^30 bytes
abbrev pub IsKeyLength : ℕ → Type 0
IsKeyLength n = (1 ≤ n) × (n ≤ 0x40000000)

-- a value has at most 2^31 - 2 bytes
abbrev pub IsValueLength : ℕ → Type 0
IsValueLength n = n ≤ 0x7FFFFFFE

pub record HasFitLengths (e : LeafElement) : Type 0 where
  pub key : IsKeyLength (length e.key)
  pub value : IsValueLength (length e.value)
