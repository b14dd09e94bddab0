-- Pairs of digits, good ones and others.
use Rattle.std.proofs.Common.{◌≡◌, ◌+◌, ◌*◌, ◌<◌, ℕ, Bool, ◌&&◌, true, false, List, Some, None, Result, Ok, Err, MatchResult, length, refl, sym}
use Rattle.std.proofs.Common.{arith, take, drop, slice_index, slice_set}
use Rattle.std.specs.{Bool.OnTrue, Bool.MatchBool, Char.is_ascii_hexdigit}
use Rattle.bolt_text.proofs.Vocabulary.{decode_pairs, digit_or_error, FromHexError, hex_digit_value, nat_tests, pair_value, value_at, ◌>>=◌}
use Rattle.hex.specs.Hex.{decode_sized}
use Rattle.hex.proofs.Pairs.{decode_done, decode_err, decode_sized-pairs, decode_step, prepend}

no_digit : (c : ℕ) → is_ascii_hexdigit c ≡ false → hex_digit_value c ≡ None
no_digit c other = grind (arith, nat_tests, other)

bad_high : (high low i : ℕ) → is_ascii_hexdigit high ≡ false → (e : FromHexError) × (pair_value high low i ≡ Err e)
bad_high high low i other = rw (no_digit high other) (_, refl)

bad_low : (high low i : ℕ) → is_ascii_hexdigit low ≡ false → (e : FromHexError) × (pair_value high low i ≡ Err e)
bad_low high low i other = rw (no_digit low other) (at (value_at high i))
  where
    at : (first : Result ℕ FromHexError)
        → (e : FromHexError) × ((first >>= (λ h. digit_or_error low (i + 1) None >>= (λ l. Ok (h * 16 + l)))) ≡ Err e)
    at (Ok h) = (_, refl)
    at (Err e) = (e, refl)

good_pair : (high low h l i : ℕ) → hex_digit_value high ≡ Some h → hex_digit_value low ≡ Some l → pair_value high low i ≡ Ok (h * 16 + l)
good_pair high low h l i first second = rw (first, second) refl

-- the bytes of the first i pairs, which are digits as far as all says so
abbrev pub DecodedTo : (digits out : List ℕ) (i : ℕ) (all : Bool) → Type 0
DecodedTo digits out i all =
    MatchBool all
    (decode_pairs 0 digits ≡ prepend (take i out) (decode_pairs (2 * i) (drop (2 * i) digits)))
    ((e : FromHexError) × (decode_pairs 0 digits ≡ Err e))

module _ (digits out : List ℕ) (i h l : ℕ) (inside : 2 * i + 1 < length digits) (room : i < length out) where
  abbrev high : ℕ
  high = slice_index digits (2 * i)

  abbrev low : ℕ
  low = slice_index digits (2 * i + 1)

  pub one_more : (all first second : Bool) → first ≡ is_ascii_hexdigit high → second ≡ is_ascii_hexdigit low
      → OnTrue (is_ascii_hexdigit high) (hex_digit_value high ≡ Some h) → OnTrue (is_ascii_hexdigit low) (hex_digit_value low ≡ Some l)
      → DecodedTo digits out i all → DecodedTo digits (slice_set out i (h * 16 + l)) (i + 1) ((all && first) && second)
  one_more false first second f s vh vl so_far = so_far
  one_more true false second f s vh vl so_far =
      let bad = bad_high high low (2 * i) (sym f) in
      (bad.0, decode_err digits out i bad.0 inside bad.1 so_far)
  one_more true true false f s vh vl so_far =
      let bad = bad_low high low (2 * i) (sym s) in
      (bad.0, decode_err digits out i bad.0 inside bad.1 so_far)
  one_more true true true f s vh vl so_far =
      decode_step digits out i _ inside room (good_pair high low h l (2 * i) (rw (← f) at vh) (rw (← s) at vl)) so_far

module _ (digits out : List ℕ) (n : ℕ) (twice : length digits ≡ 2 * n) (whole : length out ≡ n) where
  by_pairs : decode_sized digits n ≡ decode_pairs 0 digits
  by_pairs = decode_sized-pairs digits n (omega (arith, twice)) (omega (arith, twice))

  pub decoded : (i : ℕ) (all : Bool) → n ≡ i → DecodedTo digits out i all
      → MatchResult (decode_sized digits n) (λ bytes. (all ≡ true) × (out ≡ bytes)) (λ _. all ≡ false)
  decoded i true end so_far = rw (by_pairs, decode_done digits out i (omega (arith, whole, end)) (omega (arith, twice, end)) so_far) (refl, refl)
  decoded i false end so_far = rw (by_pairs, so_far.1) refl
