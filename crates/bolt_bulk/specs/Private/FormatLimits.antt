-- Numbers that the file format limits, as private contracts cite them: docs/FORMAT.md, "The tests of a page".
use Rattle.std.specs.Prelude.{ℕ}

-- a key has at most so many bytes
abbrev pub longest_key : ℕ
longest_key = 1073741824

-- the places and lengths on a page are below this
abbrev pub length_end : ℕ
length_end = 4294967296
