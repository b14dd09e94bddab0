-- Eight steps of a CRC-32C at once: steps are linear, so a state without its lowest byte is as many places lower, and what is left of the lowest byte
-- is added.
use Rattle.std.proofs.Common.{◌≡◌, ◌≢◌, ◌∙◌, ◌⊎◌, ◌<◌, ◌≤◌, ◌+◌, ◌-◌, ◌*◌, ◌/◌, ◌%◌, ◌^◌, inl, inr, ℕ, zero, suc, List, ap, ap₂, arith, drop, length}
use Rattle.std.proofs.Common.{refl, slice_index, sym}
use Rattle.std.proofs.lemmas.List.{drop_more}
use Rattle.std.proofs.lemmas.Nat.{and_mask, xor_mod, xor_shr}
use Rattle.std.proofs.Math.Nat.{mod-lt, mul_assoc, pow-suc}
use lib.Bits.{bit_and, bit_xor, xor_assoc, xor_comm, xor_shifted, xor_zero_r}
use Rattle.bolt_etcd.specs.Store.Crc32c.{IsTable, crc_bit, crc_bits, crc_from, crc_polynomial, crc_step}

-- one step, which the code makes in two ways
pub bit_none : (n : ℕ) → n % 2 ≡ 0 → n / 2 ≡ crc_bit n
unfolding crc_bit crc_polynomial
bit_none n none = sym (ap (λ (b : ℕ). bit_xor (n / 2) (b * crc_polynomial)) none ∙ xor_zero_r (n / 2))

pub bit_one : (n : ℕ) → n % 2 ≢ 0 → bit_xor (n / 2) 0x82F63B78 ≡ crc_bit n
unfolding crc_bit crc_polynomial
bit_one n some =
    let one : n % 2 ≡ 1 = omega (arith, some) in
    sym (ap (λ (b : ℕ). bit_xor (n / 2) (b * 0x82F63B78)) one)

-- one of those that are left
pub bits_next : (n state : ℕ) → n < 8 → crc_bits (8 - (n + 1)) (crc_bit state) ≡ crc_bits (8 - n) state
unfolding crc_bits
bits_next n state less = let next : 8 - n ≡ suc (8 - (n + 1)) = omega (arith, less) in sym (ap (λ (k : ℕ). crc_bits k state) next)

pub bits_end : (n state : ℕ) → 8 ≤ n → state ≡ crc_bits (8 - n) state
unfolding crc_bits
bits_end n state all = let none : 8 - n ≡ 0 = omega (arith, all) in sym (ap (λ (k : ℕ). crc_bits k state) none)

exchange : (a b c d : ℕ) → bit_xor (bit_xor a b) (bit_xor c d) ≡ bit_xor (bit_xor a c) (bit_xor b d)
exchange a b c d =
    xor_assoc a b (bit_xor c d) ∙ ap (bit_xor a) (sym (xor_assoc b c d) ∙ ap (λ (n : ℕ). bit_xor n d) (xor_comm b c) ∙ xor_assoc c b d)
    ∙ sym (xor_assoc a c (bit_xor b d))

bit_is : (n : ℕ) → (n % 2 ≡ 0) ⊎ (n % 2 ≡ 1)
bit_is n = two (n % 2) (mod-lt n (omega arith))
  where
    two : (bit : ℕ) → bit < 2 → (bit ≡ 0) ⊎ (bit ≡ 1)
    two zero small = inl refl
    two (suc bit) small = inr (omega (arith, small))

-- the polynomial times the sum of two bits
bits_times : (a b : ℕ) → bit_xor (a % 2) (b % 2) * crc_polynomial ≡ bit_xor (a % 2 * crc_polynomial) (b % 2 * crc_polynomial)
unfolding crc_polynomial
bits_times a b = elim (bit_is a) [
  | inl off ↦ elim (bit_is b) [ inl also ↦ rw (off, also) refl | inr on ↦ rw (off, on) refl ]
  | inr on ↦ elim (bit_is b) [ inl off ↦ rw (on, off) refl | inr also ↦ rw (on, also) refl ]
]

bit_linear : (a b : ℕ) → crc_bit (bit_xor a b) ≡ bit_xor (crc_bit a) (crc_bit b)
unfolding crc_bit
bit_linear a b =
    ap₂ (λ (half bit : ℕ). bit_xor half (bit * crc_polynomial)) (xor_shr a b 1) (xor_mod a b 1)
    ∙ ap (bit_xor (bit_xor (a / 2) (b / 2))) (bits_times a b)
    ∙ exchange (a / 2) (b / 2) (a % 2 * crc_polynomial) (b % 2 * crc_polynomial)

linear : (n a b : ℕ) → crc_bits n (bit_xor a b) ≡ bit_xor (crc_bits n a) (crc_bits n b)
unfolding crc_bits
linear zero a b = refl
linear (suc n) a b = ap (crc_bits n) (bit_linear a b) ∙ linear n (crc_bit a) (crc_bit b)

even : (n : ℕ) → crc_bit (n * 2) ≡ n
unfolding crc_bit crc_polynomial
even n =
    let half : n * 2 / 2 ≡ n = omega arith in
    let none : n * 2 % 2 ≡ 0 = omega arith in
    ap₂ (λ (a b : ℕ). bit_xor a (b * crc_polynomial)) half none ∙ xor_zero_r n

-- of n zeros nothing is left
zeros : (n high : ℕ) → crc_bits n (high * 2 ^ n) ≡ high
unfolding crc_bits
zeros zero high = omega arith
zeros (suc n) high = ap (crc_bits n) (ap crc_bit (ap (λ (k : ℕ). high * k) (pow-suc 2 n) ∙ sym (mul_assoc high (2 ^ n) 2)) ∙ even (high * 2 ^ n)) ∙ zeros n high

at_once : (x : ℕ) → crc_bits 8 x ≡ bit_xor (crc_bits 8 (x % 256)) (x / 256)
at_once x =
    let low : x % 256 < 2 ^ 8 = omega arith in
    let split : x ≡ bit_xor (x / 256 * 2 ^ 8) (x % 256) = omega (arith, xor_shifted (x / 256) 8 (x % 256) low) in
    ap (crc_bits 8) split ∙ linear 8 (x / 256 * 2 ^ 8) (x % 256) ∙ ap (λ (high : ℕ). bit_xor high (crc_bits 8 (x % 256))) (zeros 8 (x / 256))
    ∙ xor_comm (x / 256) (crc_bits 8 (x % 256))

-- a byte's step by what eight steps leave of the lowest byte
pub step_at_once : (state byte : ℕ) → byte < 256 → bit_xor (crc_bits 8 (bit_xor state byte % 256)) (state / 256) ≡ crc_step state byte
step_at_once state byte small =
    let none : byte / 2 ^ 8 ≡ 0 = omega (arith, small) in
    let high : bit_xor state byte / 256 ≡ state / 256 = xor_shr state byte 8 ∙ ap (bit_xor (state / 256)) none ∙ xor_zero_r (state / 256) in
    ap (bit_xor (crc_bits 8 (bit_xor state byte % 256))) (sym high) ∙ sym (at_once (bit_xor state byte))

-- the same by a table, in a loop over bytes
pub taken_in : (table : List ℕ) → IsTable table → (state : ℕ) (bytes : List ℕ) (i : ℕ) → ((k : ℕ) → slice_index bytes k < 256) → i < length bytes
    → (byte : ℕ) → byte ≡ slice_index bytes i → (total : ℕ) → crc_from state (drop i bytes) ≡ total
    → crc_from (bit_xor (slice_index table (bit_and (bit_xor state byte) 255)) (state / 256)) (drop (i + 1) bytes) ≡ total
taken_in table right state bytes i small within byte is total before =
    let low : bit_and (bit_xor state byte) 255 ≡ bit_xor state byte % 256 = and_mask (bit_xor state byte) 8 in
    let below : bit_xor state byte % 256 < 256 = mod-lt (bit_xor state byte) (omega arith) in
    let entry = ap (slice_index table) low ∙ right (bit_xor state byte % 256) below in
    let step = ap (λ (n : ℕ). bit_xor n (state / 256)) entry ∙ step_at_once state byte (rw is (small i)) ∙ ap (crc_step state) is in
    ap (λ (n : ℕ). crc_from n (drop (i + 1) bytes)) step ∙ sym (ap (crc_from state) (drop_more bytes i 0 within)) ∙ before
