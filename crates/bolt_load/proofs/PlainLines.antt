-- A text without a fault, written plainly, is the text of the listing that it tells.
use Rattle.std.proofs.Common.{rules, unwrap_or, ◌≡◌, ◌∙◌, ◌<◌, ◌+◌, ◌==◌, ◌&&◌, ◌*◌, ◌/◌, ◌%◌, ℕ, zero, suc, Bool, true, List, [], ◌∷◌, ◌++◌, Option}
use Rattle.std.proofs.Common.{Some, Result, Ok, Err, codes, length, map, inl, inr, refl, sym, ap, ap₂, arith, append_assoc}
use Rattle.std.proofs.{lemmas.Grind.common_steps, lemmas.List.Splits.join_with_byte-slice_split}
use Rattle.std.specs.{Char.to_ascii_lowercase, List.join_with_byte, Result.result_unwrap_or, Str.str_to_ascii_lowercase}
use Rattle.std.specs.Prelude.{nat_lt, slice_index}
use Rattle.bolt_load.proofs.Words.{and_parts, Bucket, bytes_eq, bytes_eq-Decides, cases_Bool, cases_lt, decode_pairs, digit_or_error, encode_lower}
use Rattle.bolt_load.proofs.Words.{encode_with, flat_map, FromHexError, hex_bytes_in, hex_digit_value, hex_path, hex_path_in, if◌then◌else◌}
use Rattle.bolt_load.proofs.Words.{IsListingText, Item, item_end, item_in, line, line_member, lines_of, listing_text, lower_digits, map-append}
use Rattle.bolt_load.proofs.Words.{Member, member_in, member_line, members_of_lines, nat_tests, number_in, option_and_then, option_map, pair_value}
use Rattle.bolt_load.proofs.Words.{part_in, parts_in, Path, result_ok, RightAfter, slice_split, Text, text_members, Value, value_at, value_end, ◌>>=◌}
use Rattle.bolt_load.proofs.{DecodedLines.shaped_member, NextLines.members_first, NextLines.parts_of, PathLemmas.part_is, PathLemmas.with_some}
use Rattle.bolt_load.proofs.{TextTrees.or_parts_none}
use Rattle.bolt_load.specs.PlainTexts.{plain_line, plain_text, plain_word, plain_words}

-- ---- digits in lower case

abbrev lower : Text → Text
lower = str_to_ascii_lowercase

-- the digit at a place of the table
abbrev place_digit : ℕ → ℕ
place_digit d = if nat_lt d 10 then d + 48 else d + 87

abbrev all_places : ℕ → Bool
all_places zero = true
all_places (suc n) = (slice_index lower_digits n == place_digit n) && all_places n

place_is : (n d : ℕ) → all_places n ≡ true → d < n → (slice_index lower_digits d == place_digit d) ≡ true
place_is zero d all below = absurd (omega (arith, below))
place_is (suc n) d all below =
    let parts = and_parts (slice_index lower_digits n == place_digit n) (all_places n) all in
    elim (cases_lt d n) [
      | inl lower ↦ place_is n d parts.1 lower
      | inr last ↦ let same : d ≡ n = omega (arith, below, last) in rw same parts.0
    ]

digit_lower : (c v : ℕ) → hex_digit_value c ≡ Some v → to_ascii_lowercase c ≡ slice_index lower_digits v
digit_lower c v is =
    let small : v < 16 = grind (arith, is) in
    let at = place_is 16 v refl small in
    grind (arith, nat_tests, is, at)

digit_of : (c i : ℕ) (found : Option ℕ) (v : ℕ) → digit_or_error c i found ≡ Ok v → found ≡ Some v
digit_of c i found v is = grind arith

small_digit : (c v : ℕ) → hex_digit_value c ≡ Some v → v < 16
small_digit c v is = grind (arith, is)

bind_ok : {A B : Type 0} (r : Result A FromHexError) (f : A → Result B FromHexError) (y : B) → (r >>= f) ≡ Ok y → (x : A) × (r ≡ Ok x) × (f x ≡ Ok y)
bind_ok r f y is = grind arith

pairs_lower : (i : ℕ) (word bytes : Text) → decode_pairs i word ≡ Ok bytes → lower word ≡ encode_lower bytes
unfolding decode_pairs encode_with
pairs_lower i [] bytes is = let none : [] ≡ bytes = ap (λ r. result_unwrap_or r []) is in ap encode_lower none
pairs_lower i (digit ∷ []) bytes is = cc is
pairs_lower i (high ∷ low ∷ rest) bytes is =
    let pair = bind_ok (pair_value high low i) _ bytes is in
    let first = bind_ok (value_at high i) _ pair.0 pair.1 in
    let second = bind_ok (value_at low (i + 1)) _ pair.0 first.2 in
    let others = bind_ok (decode_pairs (i + 2) rest) _ bytes pair.2 in
    let whole : pair.0 ∷ others.0 ≡ bytes = ap (λ r. result_unwrap_or r []) others.2 in
    let byte : first.0 * 16 + second.0 ≡ pair.0 = ap (λ r. result_unwrap_or r 0) second.2 in
    let h = digit_of high i (hex_digit_value high) first.0 first.1 in
    let l = digit_of low (i + 1) (hex_digit_value low) second.0 second.1 in
    let small = small_digit low second.0 l in
    let upper_is : first.0 ≡ pair.0 / 16 = omega (arith, byte, small) in
    let lower_is : second.0 ≡ pair.0 % 16 = omega (arith, byte, small) in
    ap₂ (λ (d : ℕ) (more : Text). d ∷ more) (digit_lower high first.0 h ∙ ap (slice_index lower_digits) upper_is)
    (ap₂ (λ (d : ℕ) (more : Text). d ∷ more) (digit_lower low second.0 l ∙ ap (slice_index lower_digits) lower_is) (pairs_lower (i + 2) rest others.0 others.1))
    ∙ ap encode_lower whole

hex_lower : (word bytes : Text) → hex_bytes_in word ≡ Some bytes → lower word ≡ encode_lower bytes
hex_lower word bytes is = elim (cases_Bool (length word % 2 == 1)) [
  | inl odd ↦ absurd (cc (rw odd at is))
  | inr even ↦ pairs_lower 0 word bytes (ok_of (decode_pairs 0 word) bytes (rw even at is))
]
  where
    ok_of : (found : Result Text FromHexError) (bytes : Text) → result_ok found ≡ Some bytes → found ≡ Ok bytes
    ok_of (Ok found) bytes is = ap Ok (ap (λ (o : Option Text). unwrap_or o []) is)
    ok_of (Err e) bytes is = cc is

-- ---- paths

parts_lower : (words : List Text) (path : Path) → parts_in words ≡ Some path → map lower words ≡ map encode_lower path
parts_lower [] path is = let none : [] ≡ path = (let f : Some [] ≡ Some path = is in cc) in ap (map encode_lower) none
parts_lower (word ∷ words) path is =
    let found = with_some (part_in word) (parts_in words) path is in
    ap₂ (λ (d : Text) (more : List Text). d ∷ more) (hex_lower word found.0 (part_is word found.0 found.2)) (parts_lower words found.1 found.3)
    ∙ ap (map encode_lower) (sym found.4)

lower_append : (xs ys : Text) → lower (xs ++ ys) ≡ lower xs ++ lower ys
lower_append xs ys = map-append to_ascii_lowercase xs ys

join_lower : (words : List Text) → lower (join_with_byte 47 words) ≡ join_with_byte 47 (map lower words)
join_lower [] = refl
join_lower (word ∷ []) = refl
join_lower (word ∷ next ∷ words) = lower_append word (47 ∷ join_with_byte 47 (next ∷ words)) ∙ ap (λ rest. lower word ++ 47 ∷ rest) (join_lower (next ∷ words))

path_lower : (word : Text) (path : Path) → hex_path_in word ≡ Some path → lower word ≡ hex_path path
unfolding hex_path_in
path_lower word path is =
    ap lower (sym (join_with_byte-slice_split 47 word)) ∙ join_lower (slice_split (λ byte. byte == 47) word)
    ∙ ap (join_with_byte 47) (parts_lower (slice_split (λ byte. byte == 47) word) path is)

-- ---- lines

value_plain : (mark word : Text) (found : Option Text) (item : Item) → mark ≡ codes "=" → hex_bytes_in word ≡ found
    → option_map Value found ≡ Some item
    → 32 ∷ mark ++ 32 ∷ plain_word mark word ++ 10 ∷ [] ≡ item_end item
unfolding item_end value_end
value_plain mark word found item sign h is = grind (arith, common_steps, plain_word, item_end, codes, hex_lower)

number_plain : (mark word : Text) (found : Option ℕ) (item : Item) → mark ≡ codes "bucket" → number_in word ≡ found
    → option_map Bucket found ≡ Some item
    → 32 ∷ mark ++ 32 ∷ plain_word mark word ++ 10 ∷ [] ≡ item_end item
unfolding item_end
number_plain mark word found item sign h is = grind arith

item_plain : (mark word : Text) (item : Item) → item_in mark word ≡ Some item → 32 ∷ mark ++ 32 ∷ plain_word mark word ++ 10 ∷ [] ≡ item_end item
item_plain mark word item is = search (rules, cases_Bool, bytes_eq, codes, value_plain, hex_bytes_in, bytes_eq-Decides, number_plain)

words_plain : (words : List Text) (member : Member) → member_in words ≡ Some member
    → join_with_byte 32 (plain_words words) ++ 10 ∷ [] ≡ member_line member
unfolding member_line
words_plain words member is = grind (arith, common_steps, parts_of, hex_path_in, item_in, append_assoc, plain_word, ap₂, path_lower, item_plain)

line_plain : (line : Text) (member : Member) → line_member line ≡ Some member → plain_line line ≡ member_line member
unfolding line_member plain_line
line_plain line member is = words_plain (slice_split (λ byte. byte == 32) line) member is

lines_plain : (lines : List Text) (before : List Member) → RightAfter before lines → flat_map plain_line lines ≡ listing_text (members_of_lines lines)
lines_plain [] before right = refl
lines_plain (line ∷ lines) before right =
    grind (arith, or_parts_none, option_and_then, shaped_member, line_plain, members_first, lines_plain lines (before ++ members_of_lines (line ∷ [])) right.1)

pub text_plain : (text : Text) → IsListingText text → plain_text text ≡ listing_text (text_members text)
text_plain text is = lines_plain (lines_of text) [] is.right
