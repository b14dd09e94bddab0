-- JSON tokens, written one after another, of bytes that are UTF-8 or not.
use Rattle.std.proofs.Common.{arith, ◌≡◌, ℕ, List, Bool, true, false, Result, Ok, Err, nat_lt, refl, Bor, [], ◌∷◌, ◌++◌, append_assoc, codes}
use Rattle.std.proofs.Common.{flat_map}
use Rattle.std.proofs.{lemmas.Bool.ltb-true, lemmas.List.Elements.All-weaker, lemmas.Str.IsUtf8-from_ascii, lemmas.Str.IsUtf8-from_is_utf8}
use Rattle.std.proofs.{lemmas.Str.Ascii.IsAscii-from_all}
use Rattle.std.specs.Prelude.{IsOk, MatchResult}
use Rattle.std.specs.Str.{IsAscii, IsUtf8}
use Rattle.bolt_text.proofs.Vocabulary.{AllPass-from_list_all, encode_lower, end_object, is_utf8, is_utf8-from_IsUtf8, item_json, items_tokens}
use Rattle.bolt_text.proofs.Vocabulary.{json_tokens, lower_digits, parts_json, path_of}
use Rattle.hex.proofs.HexLemmas.{IsAscii-encode_with}
use Rattle.json.specs.Token.{begin_object, end_array, key, string}

tested : (bytes : List ℕ) (b : Bool) → is_utf8 bytes ≡ b → ¬ (IsUtf8 bytes) → is_utf8 bytes ≡ false
tested bytes true is other = absurd (other (IsUtf8-from_is_utf8 bytes is))
tested bytes false is other = is

pub not_utf8 : (bytes : List ℕ) → ¬ (IsUtf8 bytes) → is_utf8 bytes ≡ false
not_utf8 bytes other = tested bytes (is_utf8 bytes) refl other

-- a result that can't be an error
pub never_err : {A E : Type 0} (P : A → Type 0) (Q : E → Type 0) (result : Result A E) → MatchResult result P Q → ((e : E) → ¬ (Q e)) → IsOk result
never_err P Q (Ok x) is never = refl
never_err P Q (Err e) is never = absurd (never e is)

digits_ascii : IsAscii lower_digits
digits_ascii =
    IsAscii-from_all lower_digits
    (All-weaker (λ b. nat_lt b 128 ≡ true) _ (λ b. ltb-true b 128) lower_digits (AllPass-from_list_all (λ b. nat_lt b 128) lower_digits refl))

-- hexadecimal digits are UTF-8
pub digits_utf8 : (bytes : List ℕ) → IsUtf8 (encode_lower bytes)
digits_utf8 bytes = IsUtf8-from_ascii (encode_lower bytes) (IsAscii-encode_with lower_digits bytes digits_ascii)

pub parts_tokens : (path : List (Bor (List ℕ)))
    → items_tokens (parts_json item_json (path_of path)) ≡ flat_map (λ (part : Bor (List ℕ)). json_tokens (item_json part.now)) path ++ end_array ∷ []
parts_tokens [] = refl
parts_tokens (part ∷ path) = grind (arith, json_tokens, append_assoc, parts_tokens path)

-- bytes that are UTF-8 are a string
pub text_tokens : (bytes text : List ℕ) → IsUtf8 bytes → text ≡ bytes → json_tokens (item_json bytes) ≡ string text ∷ []
text_tokens bytes text utf8 same = rw (is_utf8-from_IsUtf8 bytes utf8) (rw same refl)

-- and others an object
pub digits_tokens : (bytes : List ℕ) → ¬ (IsUtf8 bytes)
    → json_tokens (item_json bytes) ≡ begin_object ∷ key (codes "hex") ∷ string (encode_lower bytes) ∷ end_object ∷ []
digits_tokens bytes other = rw (not_utf8 bytes other) refl
