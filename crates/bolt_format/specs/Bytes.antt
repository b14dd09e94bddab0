-- Numbers in the bytes of a file, and the checksum: docs/FORMAT.md, "Numbers" and "Checksum".
use Rattle.std.specs.Prelude.{◌<◌, ℕ, ◌*◌, ◌^◌, ◌%◌, List, [], ◌∷◌, drop, bit_xor, slice_index}
use Rattle.byteorder.specs.Endian.{little_number}

-- a list of bytes is a list of numbers below 256
abbrev pub IsBytes : List ℕ → Type 0
IsBytes bytes = (i : ℕ) → slice_index bytes i < 256

-- the number in the n bytes from place at, the lowest first
unfoldable pub number_at : List ℕ → ℕ → ℕ → ℕ
number_at bytes at n = little_number n (drop at bytes)

-- FNV-1a over a byte: exclusive-or, and then a product of 64 bits
unfoldable pub fnv_step : ℕ → ℕ → ℕ
fnv_step hash byte = bit_xor hash byte * 0x100000001b3 % 2 ^ 64

-- the bytes from the left, from a number on
abbrev pub fnv_from : ℕ → List ℕ → ℕ
fnv_from hash [] = hash
fnv_from hash (byte ∷ bytes) = fnv_from (fnv_step hash byte) bytes

-- FNV-1a of 64 bits
unfoldable pub fnv_of : List ℕ → ℕ
fnv_of bytes = fnv_from 0xcbf29ce484222325 bytes
