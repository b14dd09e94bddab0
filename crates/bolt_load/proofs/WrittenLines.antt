-- The line of a member is read back as that member.
use Rattle.std.proofs.Common.{rules, ◌≡◌, ◌∙◌, ◌==◌, ◌<◌, ◌≤◌, ◌^◌, ℕ, zero, suc, Bool, true, false, List, [], ◌∷◌, ◌++◌, Option, Some, None, codes}
use Rattle.std.proofs.Common.{length, map, refl, sym, ap, ap₂, arith, append_assoc}
use Rattle.std.proofs.{lemmas.Bool.not-true, lemmas.Grind.common_steps, lemmas.List.Elements.All-cons, lemmas.List.Elements.All-nil}
use Rattle.bolt_load.proofs.Words.{All-append, all_ascii_digits, and_parts, ArePartsBytes, Bucket, decimal, digits_decimal, encode_lower, encode_with}
use Rattle.bolt_load.proofs.Words.{hex_bytes_in, hex_path, hex_path_in, is_ascii_digit, is_long_item, is_long_key, IsFitItem, IsMemberOfBytes}
use Rattle.bolt_load.proofs.Words.{IsWithout, Item, item_end, Key, line, line_member, list_any, lower_digits, Member, member_line, nat_tests}
use Rattle.bolt_load.proofs.Words.{option_and_then, part_in, parts_in, Path, result_ok, shape_fault, slice_split, slice_split_at, slice_split_none}
use Rattle.bolt_load.proofs.Words.{Text, Value, value_end}
use Rattle.bolt_load.proofs.{MemberLemmas.member_of, StoredTexts.AreKeys, StoredTexts.FitsMember}
use Rattle.bolt_text.proofs.Exports.{decimal_numerals, number_written}
use Rattle.std.specs.List.{list_all}
use Rattle.std.specs.Prelude.{◌/◌, ◌%◌, nat_lt, not, slice_index}
use Rattle.hex.specs.Hex.{IsBytes}
use Rattle.hex.proofs.HexLemmas.{decode_of-encode_lower, length-encode_with}

-- ---- which bytes are in a line

-- a byte that is no digit, in decimal or in hexadecimal
abbrev pub IsApart : ℕ → Type 0
IsApart mark = (list_all (λ digit. not (digit == mark)) lower_digits ≡ true) × (is_ascii_digit mark ≡ false)

line_apart : IsApart 10
line_apart = (refl, refl)

space_apart : IsApart 32
space_apart = (refl, refl)

slash_apart : IsApart 47
slash_apart = (refl, refl)

at_index : (p : ℕ → Bool) (xs : List ℕ) (i : ℕ) → i < length xs → list_all p xs ≡ true → p (slice_index xs i) ≡ true
at_index p [] i below all = absurd (omega (arith, below))
at_index p (x ∷ xs) zero below all = (and_parts (p x) (list_all p xs) all).0
at_index p (x ∷ xs) (suc i) below all = at_index p xs i (omega (arith, below)) (and_parts (p x) (list_all p xs) all).1

digit_apart : (mark : ℕ) → IsApart mark → (i : ℕ) → i < 16 → (slice_index lower_digits i == mark) ≡ false
digit_apart mark apart i below = not-true (slice_index lower_digits i == mark) (at_index (λ digit. not (digit == mark)) lower_digits i below apart.0)

module _ (mark : ℕ) (apart : IsApart mark) where
  abbrev Other : ℕ → Type 0
  Other byte = (byte == mark) ≡ false

  hex_without : (bytes : List ℕ) → IsBytes bytes → IsWithout mark (encode_lower bytes)
  unfolding encode_with
  hex_without [] are = All-nil Other
  hex_without (byte ∷ bytes) are =
      let below : byte < 256 = are 0 in
      All-cons Other (slice_index lower_digits (byte / 16)) (slice_index lower_digits (byte % 16) ∷ encode_lower bytes)
      (digit_apart mark apart (byte / 16) (omega arith))
      (All-cons Other (slice_index lower_digits (byte % 16)) (encode_lower bytes) (digit_apart mark apart (byte % 16) (omega arith))
      (hex_without bytes (λ i. are (suc i))))

  literal_without : (text : Text) → list_all (λ byte. not (byte == mark)) text ≡ true → IsWithout mark text
  literal_without [] all = All-nil Other
  literal_without (byte ∷ text) all = grind (arith, common_steps, and_parts, not, list_all)

  digits_without : (word : Text) → all_ascii_digits word ≡ true → IsWithout mark word
  digits_without [] all = All-nil Other
  digits_without (digit ∷ word) all =
      let parts = and_parts (is_ascii_digit digit) (all_ascii_digits word) all in
      All-cons Other digit word (other digit parts.0) (digits_without word parts.1)
    where
      other : (digit : ℕ) → is_ascii_digit digit ≡ true → (digit == mark) ≡ false
      other digit is = grind (arith, nat_tests, is, apart.1)

  decimal_without : (n : ℕ) → n < 2 ^ 64 → IsWithout mark (decimal n)
  decimal_without n fits = digits_without (decimal n) (digits_decimal decimal_numerals n fits)

  path_without : (path : Path) → (47 == mark) ≡ false → ArePartsBytes path → IsWithout mark (hex_path path)
  path_without [] slash are = All-nil Other
  path_without (part ∷ []) slash are = hex_without part are.0
  path_without (part ∷ next ∷ path) slash are =
      All-append Other (encode_lower part) (47 ∷ hex_path (next ∷ path)) (hex_without part are.0)
      (All-cons Other 47 (hex_path (next ∷ path)) slash (path_without (next ∷ path) slash are.1))

-- ---- a path is read back

key_back : (key : Key) → 1 ≤ length key → IsBytes key → part_in (encode_lower key) ≡ Some key
key_back key some are = search (rules, length-encode_with, lower_digits, encode_lower, nat_tests, hex_bytes_in, result_ok, decode_of-encode_lower)

path_parts : (path : Path) → 0 < length path → ArePartsBytes path → slice_split (λ byte. byte == 47) (hex_path path) ≡ map encode_lower path
path_parts [] some are = absurd (omega (arith, some))
path_parts (part ∷ []) some are = slice_split_none (λ byte. byte == 47) (encode_lower part) (hex_without 47 slash_apart part are.0)
path_parts (part ∷ next ∷ path) some are = grind (arith, slice_split_at, encode_lower, hex_without, slash_apart, path_parts (next ∷ path) (omega arith) are.1)

parts_back : (path : Path) → AreKeys path → ArePartsBytes path → parts_in (map encode_lower path) ≡ Some path
parts_back [] keys are = refl
parts_back (key ∷ path) keys are = grind (arith, option_and_then, encode_lower, key_back, parts_back path keys.1 are.1)

path_back : (path : Path) → 0 < length path → AreKeys path → ArePartsBytes path → hex_path_in (hex_path path) ≡ Some path
unfolding hex_path_in
path_back path some keys are = ap parts_in (path_parts path some are) ∙ parts_back path keys are

-- ---- a line is read back

-- the line of a member without its line feed
abbrev item_words : Item → Text
item_words (Value value) = codes " = " ++ encode_lower value
item_words (Bucket sequence) = codes " bucket " ++ decimal sequence

abbrev pub member_words : Member → Text
member_words member = hex_path member.0 ++ item_words member.1

item_end_is : (item : Item) → item_end item ≡ item_words item ++ 10 ∷ []
unfolding item_end value_end
item_end_is item = grind arith

pub line_is : (member : Member) → member_line member ≡ member_words member ++ 10 ∷ []
unfolding member_line
line_is member = ap (λ end. hex_path member.0 ++ end) (item_end_is member.1) ∙ sym (append_assoc (hex_path member.0) (item_words member.1) (10 ∷ []))

-- the three words
value_parts : (path : Path) (value : List ℕ) → ArePartsBytes path → IsBytes value
    → slice_split (λ byte. byte == 32) (hex_path path ++ (codes " = " ++ encode_lower value)) ≡ hex_path path ∷ codes "=" ∷ encode_lower value ∷ []
value_parts path value are bytes = grind (arith, slice_split_at, encode_lower, path_without, space_apart, slice_split_none, hex_without)

bucket_parts : (path : Path) (sequence : ℕ) → ArePartsBytes path → sequence < 2 ^ 64
    → slice_split (λ byte. byte == 32) (hex_path path ++ (codes " bucket " ++ decimal sequence)) ≡ hex_path path ∷ codes "bucket" ∷ decimal sequence ∷ []
bucket_parts path sequence are fits = grind (arith, slice_split_at, path_without, space_apart, slice_split_none, decimal_without)

said : (path : Path) (item : Item) (found : Option Path) (other : Option Item) → found ≡ Some path → other ≡ Some item
    → member_of found other ≡ Some (path, item)
said path item found other is same = ap₂ member_of is same

pub line_back : (member : Member) → 0 < length member.0 → FitsMember member → IsMemberOfBytes member → line_member (member_words member) ≡ Some member
unfolding line_member
line_back (path, Value value) some fits are = grind (arith, value_parts, encode_lower, path_back, result_ok, decode_of-encode_lower)
line_back (path, Bucket sequence) some fits are = grind (arith, bucket_parts, path_back, number_written)

-- no line feed is in it
pub words_without : (member : Member) → IsMemberOfBytes member → IsWithout 10 (member_words member)
words_without (path, Value value) are =
    All-append (λ byte. (byte == 10) ≡ false) (hex_path path) (codes " = " ++ encode_lower value) (path_without 10 line_apart path refl are.0)
    (All-append (λ byte. (byte == 10) ≡ false) (codes " = ") (encode_lower value) (literal_without 10 line_apart (codes " = ") refl)
    (hex_without 10 line_apart value are.1))
words_without (path, Bucket sequence) are =
    All-append (λ byte. (byte == 10) ≡ false) (hex_path path) (codes " bucket " ++ decimal sequence) (path_without 10 line_apart path refl are.0)
    (All-append (λ byte. (byte == 10) ≡ false) (codes " bucket ") (decimal sequence) (literal_without 10 line_apart (codes " bucket ") refl)
    (decimal_without 10 line_apart sequence are.1))

-- ---- nothing is wrong with it in itself

short_parts : (path : Path) → AreKeys path → list_any is_long_key path ≡ false
short_parts [] keys = refl
short_parts (key ∷ path) keys = grind (arith, nat_tests, short_parts path keys.1)

short_item : (item : Item) → IsFitItem item → is_long_item item ≡ false
short_item (Value value) fits = short (length value) fits
  where
    short : (n : ℕ) → n ≤ 0x7FFFFFFE → nat_lt 0x7FFFFFFE n ≡ false
    short n fits = grind (arith, nat_tests)
short_item (Bucket sequence) fits = refl

pub line_shaped : (line : Text) (member : Member) → FitsMember member → line_member line ≡ Some member → shape_fault line ≡ None
line_shaped line member fits is = rw is (rw (short_parts member.0 fits.0, short_item member.1 fits.1) refl)
