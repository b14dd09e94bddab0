-- Hexadecimal digits, written part by part, and as JSON strings, which need no escapes.
use Rattle.std.proofs.Common.{rules, ◌≡◌, ◌∙◌, ℕ, ◌+◌, ◌-◌, ◌*◌, ◌/◌, ◌%◌, ◌<◌, List, [], ◌∷◌, ◌++◌, length, map, get_or, take, drop, bit_and, w16}
use Rattle.std.proofs.Common.{ap, refl, sym, take-append-drop, suc, Bool, true, false, ◌&&◌, ◌==◌, not, nat_le, arith, append_assoc, codes}
use Rattle.std.proofs.{lemmas.List.take_rest, lemmas.List.FromFn.get_or-map-range_with_len, lemmas.Bool.eqb-false, lemmas.Bool.leb-true}
use Rattle.std.proofs.{lemmas.Bool.not-true}
use Rattle.bolt_text.proofs.Vocabulary.{AllPass-from_list_all, and_parts, decimal, digits_json, encode_lower, escape_byte, IsBytes, items_tokens}
use Rattle.bolt_text.proofs.Vocabulary.{json_line, list_all, lower_digits, parts_json, Path, path_text, print_from, range_with_len, Token, Value}
use Rattle.std.specs.Prelude.{slice_index}
use Rattle.std.specs.Int.{to_le_bytes}
use Rattle.hex.specs.Hex.{encode_with}
use Rattle.json.proofs.Printed.Strings.{escape_byte_plain}
use Rattle.json.specs.{Print.escape}
use Rattle.bolt_tree.specs.Entries.{Bucket}
use Rattle.bolt_text.specs.{Pieces.hex_string, declared.path_pieces.PathForm.TheVariants.Strings}

encode_with-append : (digits xs ys : List ℕ) → encode_with digits (xs ++ ys) ≡ encode_with digits xs ++ encode_with digits ys
unfolding encode_with
encode_with-append digits [] ys = refl
encode_with-append digits (x ∷ xs) ys = ap (λ l. slice_index digits (x / 16) ∷ slice_index digits (x % 16) ∷ l) (encode_with-append digits xs ys)

-- the digits of the next k bytes, and then those of the others
pub next_digits : (rest : List ℕ) (k : ℕ) → encode_lower rest ≡ encode_lower (take k rest) ++ encode_lower (take (length rest - k) (drop k rest))
next_digits rest k =
    ap encode_lower (sym (take-append-drop k rest)) ∙ encode_with-append lower_digits (take k rest) (drop k rest)
    ∙ ap (λ l. encode_lower (take k rest) ++ encode_lower l) (sym (take_rest rest k))

pub no_digits : (rest : List ℕ) → rest ≡ [] → encode_lower rest ≡ []
unfolding encode_with
no_digits rest none = ap encode_lower none

-- ---- both digits of a byte in one number

abbrev pub pair : ℕ → List ℕ
pair byte = to_le_bytes w16 (byte / 16 + byte % 16 * 256 + 12336 + bit_and ((byte / 16 + byte % 16 * 256 + 1542) / 16) 257 * 39)

abbrev pub digits_of : ℕ → List ℕ
digits_of byte = slice_index lower_digits (byte / 16) ∷ slice_index lower_digits (byte % 16) ∷ []

-- each of the 256 bytes was tried
all_pairs : map pair (range_with_len 0 256) ≡ map digits_of (range_with_len 0 256)
all_pairs = refl

read : (f : ℕ → List ℕ) (byte : ℕ) → byte < 256 → get_or (map f (range_with_len 0 256)) byte [] ≡ f byte
read f byte fits = get_or-map-range_with_len f 0 256 byte byte [] fits (omega arith)

pub pair_is : (byte : ℕ) → byte < 256 → pair byte ≡ digits_of byte
pair_is byte fits = sym (read pair byte fits) ∙ (ap (λ (pairs : List (List ℕ)). get_or pairs byte []) all_pairs ∙ read digits_of byte fits)

-- ---- digits as text

-- what each digit passes, the digits of bytes do
pub digits_pass : (test : ℕ → Bool) → list_all test lower_digits ≡ true → (bytes : List ℕ) → IsBytes bytes → list_all test (encode_lower bytes) ≡ true
unfolding encode_with
digits_pass test all [] are = refl
digits_pass test all (byte ∷ rest) are =
    let fits = are 0 in
    let each = AllPass-from_list_all test lower_digits all in
    rw (each (byte / 16) 0 (omega (arith, fits)), each (byte % 16) 0 (omega arith)) (digits_pass test all rest (λ i. are (suc i)))

-- from 0 (48) on, but no backslash (92)
abbrev is_plain : ℕ → Bool
is_plain x = nat_le 48 x && not (x == 92)

plain_byte : (x : ℕ) → is_plain x ≡ true → escape_byte x ≡ x ∷ []
plain_byte x e = grind (arith, and_parts, leb-true, escape_byte_plain, eqb-false, not-true)

plain_text : (text : List ℕ) → list_all is_plain text ≡ true → escape text ≡ text
plain_text [] all = refl
plain_text (x ∷ text) all =
    let (first, rest) = and_parts (is_plain x) (list_all is_plain text) all in
    λ i. plain_byte x first i ++ plain_text text rest i

pub plain_digits : (bytes : List ℕ) → IsBytes bytes → escape (encode_lower bytes) ≡ encode_lower bytes
plain_digits bytes are = plain_text (encode_lower bytes) (digits_pass is_plain refl bytes are)

-- ---- the line of a member

-- the parts of a path, and what follows them
parts_print : (path : Path) (later : List Token)
    → print_from false (items_tokens (parts_json digits_json path) ++ later) ≡ path_text Strings path ++ (93 ∷ print_from true later)
unfolding print_from
parts_print [] later = refl
parts_print (part ∷ []) later = refl
parts_print (part ∷ next ∷ path) later = grind (arith, append_assoc, print_from, parts_print (next ∷ path) later)

pub value_line : (path : Path) (value : List ℕ)
    → codes "{\"path\":[" ++ (path_text Strings path ++ (codes "],\"value\":" ++ (hex_string value ++ (codes "}\n" ++ []))))
    ≡ json_line digits_json (path, Value value)
unfolding print_from escape_byte json_line
value_line path value = search (rules, parts_print, append_assoc)

pub bucket_line : (path : Path) (sequence : ℕ)
    → codes "{\"path\":[" ++ (path_text Strings path ++ (codes "],\"bucket\":" ++ (decimal sequence ++ (codes "}\n" ++ []))))
    ≡ json_line digits_json (path, Bucket sequence)
unfolding print_from escape_byte json_line
bucket_line path sequence = search (rules, parts_print, append_assoc)
