-- CRC-32C: the bits of the bytes, the lowest of each byte first, as a polynomial over two elements, and what is left of it by division by
-- Castagnoli's polynomial 0x1EDC6F41. The highest coefficients are the lowest bits of a state.
use Rattle.std.specs.Prelude.{◌≡◌, ◌<◌, ℕ, zero, suc, ◌+◌, ◌*◌, ◌-◌, ◌/◌, ◌%◌, ◌^◌, List, [], ◌∷◌, bit_xor, slice_index}

-- the lowest n bits of a number, in reverse order
abbrev pub reversed : ℕ → ℕ → ℕ
reversed zero number = 0
reversed (suc n) number = number % 2 * 2 ^ n + reversed n (number / 2)

-- Castagnoli's polynomial, as it is taken away from a state
unfoldable pub crc_polynomial : ℕ
crc_polynomial = reversed 32 0x1EDC6F41

-- A step of the division for one bit: the lowest bit goes out, and if it is set, the polynomial is taken away.
unfoldable pub crc_bit : ℕ → ℕ
crc_bit state = bit_xor (state / 2) (state % 2 * crc_polynomial)

-- the state after n steps of the division
unfoldable pub crc_bits : ℕ → ℕ → ℕ
crc_bits zero state = state
crc_bits (suc n) state = crc_bits n (crc_bit state)

-- a byte's bits are added to the lowest of a state, and go out
abbrev pub crc_step : ℕ → ℕ → ℕ
crc_step state byte = crc_bits 8 (bit_xor state byte)

-- the state after these bytes, from the left, if it was `state` before them
abbrev pub crc_from : ℕ → List ℕ → ℕ
crc_from state [] = state
crc_from state (byte ∷ bytes) = crc_from (crc_step state byte) bytes

-- at first all bits are set; at last all are flipped
abbrev pub crc_begin : ℕ
crc_begin = 2 ^ 32 - 1

abbrev pub crc_end : ℕ → ℕ
crc_end state = bit_xor state (2 ^ 32 - 1)

-- the CRC-32C of bytes
unfoldable pub crc_of : List ℕ → ℕ
crc_of bytes = crc_end (crc_from crc_begin bytes)

-- what eight steps leave of each byte
abbrev pub IsTable : List ℕ → Type 0
IsTable table = (i : ℕ) → i < 256 → slice_index table i ≡ crc_bits 8 i
