-- What is printed of an item in the form `mixed` is a word, which is read back as a part.
use Rattle.std.proofs.Common.{arith, ◌≡◌, ◌++◌, ◌&&◌, List, ℕ, Bool, true, false, Result, Some, ap, codes, drop, nat_le, not, refl, take}
use Rattle.bolt_text.proofs.Vocabulary.{FromHexError, and_parts, bytes_eq, bytes_eq-Decides, encode_lower, hex_bytes_in, if◌then◌else◌, result_ok}
use Rattle.bolt_text.proofs.HexStrings.{digits_pass}
use Rattle.std.proofs.lemmas.Bool.{false_from_ne_true, not-true}
use Rattle.hex.proofs.HexLemmas.{decode_of-encode_lower}
use Rattle.hex.specs.Hex.{IsBytes}
use Rattle.bolt_text.specs.{PartWords.mixed_in, Forms.is_marked, Forms.is_printable, Forms.mixed_text}

-- without the mark it is read as text
unmarked : (bytes : List ℕ) → is_marked bytes ≡ false → bytes_eq (take 2 bytes) (codes "0x") ≡ false
unmarked bytes none = grind (arith, false_from_ne_true, bytes_eq, bytes_eq-Decides)

module _ (bytes : List ℕ) (are : IsBytes bytes) where
  by_test : (plain : Bool) → (is_printable bytes && not (is_marked bytes)) ≡ plain
      → mixed_in (if plain then bytes else codes "0x" ++ encode_lower bytes) ≡ Some bytes
  by_test true e = ap (λ (b : Bool). if b then hex_bytes_in (drop 2 bytes) else Some bytes) (unmarked bytes (not-true (is_marked bytes) (and_parts _ _ e).1))
  by_test false e = ap (λ (read : Result (List ℕ) FromHexError). result_ok read) (decode_of-encode_lower bytes are)

  pub mixed_back : mixed_in (mixed_text bytes) ≡ Some bytes
  mixed_back = by_test (is_printable bytes && not (is_marked bytes)) refl

  word_by_test : (plain : Bool) → (is_printable bytes && not (is_marked bytes)) ≡ plain
      → is_printable (if plain then bytes else codes "0x" ++ encode_lower bytes) ≡ true
  word_by_test true e = (and_parts (is_printable bytes) _ e).0
  word_by_test false e = digits_pass (λ byte. nat_le 0x20 byte && nat_le byte 0x7E) refl bytes are

  pub mixed_word : is_printable (mixed_text bytes) ≡ true
  mixed_word = word_by_test (is_printable bytes && not (is_marked bytes)) refl
