-- What `parse` makes of a word that is to be a number.
use Rattle.std.proofs.Common.{◌≡◌, ◌<◌, ◌^◌, ◌==◌, ℕ, [], ◌∷◌, Option, Some, None, Result, Ok, Err, true, false, length, get_or, refl, rules, arith}
use Rattle.std.proofs.Common.{subst}
use Rattle.std.proofs.{lemmas.Str.IsUtf8-from_ascii, lemmas.Fmt.decimal_nonempty, lemmas.Fmt.digits_value-decimal, lemmas.Bool.false_from_ne_true}
use Rattle.std.proofs.{lemmas.Bool.ltb-true}
use Rattle.std.proofs.lemmas.Str.Parse.{IsNumeralModel, numerals_by_weight, parse_plain}
use Rattle.std.specs.Prelude.{IsUtf8, ◌≢◌, option_copied, slice_get, zero, suc, MatchResult}
use Rattle.std.specs.{Borrow.Bor, Option.option_eq, Str.IsAscii, Str.Parse.ParsesUnsigned}
use Rattle.bolt_text.proofs.Vocabulary.{all_ascii_digits, and_parts, cases_Bool, decimal, digits_decimal, is_ascii_digit, nat_tests, number_in}
use Rattle.bolt_text.proofs.Vocabulary.{result_ok, Text}
use Rattle.bolt_text.specs.Numbers.{decimal_value, is_number}

pub decimal_numerals : IsNumeralModel (λ digits. all_ascii_digits digits ≡ true) decimal_value
decimal_numerals = numerals_by_weight _ (search rules) decimal_value (search rules)

pub good_number : (word : Text) → all_ascii_digits word ≡ true → 0 < length word → decimal_value word < 2 ^ 64 → is_number word ≡ true
good_number word digits some small = grind (arith, nat_tests, digits)

is_good : (word : Text) → is_number word ≡ true → (all_ascii_digits word ≡ true) × (0 < length word) × (decimal_value word < 2 ^ 64)
is_good word good = grind (arith, and_parts, all_ascii_digits, ltb-true)

pub no_number : (word : Text) → is_number word ≡ false → number_in word ≡ None
no_number word bad = rw bad refl

pub number_is : (word : Text) (n : ℕ) → number_in word ≡ Some n → (is_number word ≡ true) × (decimal_value word ≡ n) × (n < 2 ^ 64)
number_is word n is = grind (arith, cases_Bool, is_good, no_number)

-- without a plus before it
pub parsed_number : {E : Type 0} (word : Text) (parsed : Result ℕ E) → ParsesUnsigned 64 10 word parsed → get_or word 0 0 ≢ 43
    → result_ok parsed ≡ number_in word
parsed_number {E} word (Ok n) parses plain = grind (arith, parse_plain, decimal_numerals, good_number)
parsed_number {E} word (Err e) parses plain = grind (arith, parse_plain, decimal_numerals, no_number, false_from_ne_true, is_good)

-- the digits of a number are read as it
pub number_written : (n : ℕ) → n < 2 ^ 64 → number_in (decimal n) ≡ Some n
number_written n fits = grind (arith, digits_value-decimal, decimal_numerals, good_number, digits_decimal, decimal_nonempty)

-- digits are ASCII
ascii_digits : (word : Text) → all_ascii_digits word ≡ true → IsAscii word
ascii_digits [] digits i = omega arith
ascii_digits (digit ∷ word) digits zero = let is = (and_parts (is_ascii_digit digit) (all_ascii_digits word) digits).0 in grind (arith, nat_tests, is)
ascii_digits (digit ∷ word) digits (suc i) = ascii_digits word (and_parts (is_ascii_digit digit) (all_ascii_digits word) digits).1 i

-- a word whose first byte isn't a plus
pub no_plus : (word : Text) (first : Option (Bor ℕ)) (plus : Bor ℕ) → plus.now ≡ 43 → option_copied first ≡ slice_get word 0
    → option_eq (λ (x y : Bor ℕ). x.now == y.now) first (Some plus) ≡ false → get_or word 0 0 ≢ 43
no_plus [] first plus is value other same = absurd (omega (arith, same))
no_plus (byte ∷ word) None plus is value other same = absurd (let f : None ≡ Some byte = value in cc)
no_plus (byte ∷ word) (Some x) plus is value other same = grind (arith, nat_tests)

-- a word that isn't text in UTF-8 has other bytes than digits
not_utf8 : (word : Text) → ¬ (IsUtf8 word) → number_in word ≡ None
not_utf8 word bad = no_number word (false_from_ne_true (is_number word) (λ good. bad (IsUtf8-from_ascii word (ascii_digits word (is_good word good).0))))

module _ {E : Type 0} (word : Text) (Failed : E → Type 0) where
  pub no_text : (text : Result (Bor Text) E) → MatchResult text (λ s. (s.now ≡ word) × IsUtf8 word) (λ e. ¬ (IsUtf8 word) × Failed e)
      → result_ok text ≡ None → number_in word ≡ None
  no_text (Ok s) cases none = absurd (cc)
  no_text (Err e) cases none = not_utf8 word cases.0

  pub text_is : (text : Result (Bor Text) E) (found : Bor Text)
      → MatchResult text (λ s. (s.now ≡ word) × IsUtf8 word) (λ e. ¬ (IsUtf8 word) × Failed e) → result_ok text ≡ Some found → found.now ≡ word
  text_is (Ok s) found cases some = let same : s ≡ found = cc in subst (λ (t : Bor Text). t.now ≡ word) same cases.0
  text_is (Err e) found cases some = absurd (cc)
