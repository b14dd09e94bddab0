-- JSON lines are read back.
use Rattle.std.proofs.Common.{rules, ◌≡◌, ◌∙◌, ℕ, ◌<◌, ◌≤◌, ◌^◌, List, [], ◌∷◌, Option, Some, arith, ap, codes, option_and_then, option_map, refl}
use Rattle.std.proofs.{lemmas.Bool.cond_both, lemmas.Fmt.decimal_is_IsNumeral}
use Rattle.bolt_text.proofs.Vocabulary.{decimal, digits_json, end_json, is_utf8, IsBytes, item_json, json_text, Member, parts_json, Path, Value}
use Rattle.std.specs.{Result.result_ok, Str.Parse.digits_value}
use Rattle.hex.proofs.HexLemmas.{decode_of-encode_lower}
use Rattle.json.proofs.{Printed.Decimals.IsNumber-decimal, Printed.Trees.document-print}
use Rattle.json.specs.Json.{Items, Json, array, document, member}
use Rattle.json.specs.Tree.{HasNumbers, ItemsHaveNumbers, MembersHaveNumbers, depth, items_depth, members_depth}
use Rattle.bolt_tree.specs.Entries.{Bucket, Item}
use Rattle.bolt_text.specs.JsonLines.{member_json}
use Rattle.bolt_text.specs.JsonReadings.{ArePartsBytes, IsItemOfBytes, IsMemberOfBytes, digits_of, end_of, item_in_json, member_of, parts_of}

-- a key or a value as JSON, and what reads it
pub record Reads (shown : List ℕ → Json) (read : Json → Option (List ℕ)) : Type 0 where
  pub back : (bytes : List ℕ) → IsBytes bytes → read (shown bytes) ≡ Some bytes
  pub numbers : (bytes : List ℕ) → HasNumbers (shown bytes)
  pub shallow : (bytes : List ℕ) → depth (shown bytes) ≤ 1

-- as a string of its digits; and as a string if it is UTF-8, and otherwise as an object
digits_back : (bytes : List ℕ) → IsBytes bytes → digits_of (digits_json bytes) ≡ Some bytes
digits_back bytes h = ap result_ok (decode_of-encode_lower bytes h)

pub digits_read : Reads digits_json digits_of
digits_read = record { back = digits_back; numbers = λ bytes. tt; shallow = λ bytes. omega arith }

pub items_read : Reads item_json item_in_json
items_read = grind (arith, cond_both, is_utf8, digits_back)

pub numeral_back : (n : ℕ) → n < 2 ^ 64 → digits_value 10 (decimal n) ≡ n
numeral_back n h = (decimal_is_IsNumeral n h).1

module _ (shown : List ℕ → Json) (read : Json → Option (List ℕ)) (reads : Reads shown read) where
  pub one_item : (bytes : List ℕ) → IsBytes bytes → option_and_then read (document (json_text (shown bytes))) ≡ Some bytes
  one_item bytes h = ap (option_and_then read) (document-print (shown bytes) (reads.numbers bytes) (omega (arith, reads.shallow bytes))) ∙ reads.back bytes h

  -- ---- the line of a member

  parts_back : (path : Path) → ArePartsBytes path → parts_of read (parts_json shown path) ≡ Some path
  parts_back [] h = refl
  parts_back (part ∷ path) h = grind (arith, option_and_then, parts_back path h.1)

  parts_numbers : (path : Path) → ItemsHaveNumbers (parts_json shown path)
  parts_numbers [] = tt
  parts_numbers (part ∷ path) = (reads.numbers part, parts_numbers path)

  parts_depth : (path : Path) → items_depth (parts_json shown path) ≤ 1
  parts_depth [] = omega arith
  parts_depth (part ∷ path) = omega (arith, reads.shallow part, parts_depth path)

  -- a value or a sequence
  end_back : (path : Items) (last : Item) → IsItemOfBytes last → end_of read (member (codes "path") (array path) (end_json shown last)) ≡ Some last
  end_back path (Value value) h = ap (option_map Value) (reads.back value h)
  end_back path (Bucket sequence) h = ap (λ n. Some (Bucket n)) (numeral_back sequence h)

  end_numbers : (last : Item) → IsItemOfBytes last → MembersHaveNumbers (end_json shown last)
  end_numbers (Value value) h = (reads.numbers value, tt)
  end_numbers (Bucket sequence) h = (IsNumber-decimal sequence h, tt)

  end_depth : (last : Item) → members_depth (end_json shown last) ≤ 1
  end_depth (Value value) = omega (arith, reads.shallow value)
  end_depth (Bucket sequence) = omega arith

  pub line_document : (m : Member) → IsMemberOfBytes m → document (json_text (member_json shown m)) ≡ Some (member_json shown m)
  line_document m h = document-print (member_json shown m) (parts_numbers m.0, end_numbers m.1 h.1) (omega (arith, parts_depth m.0, end_depth m.1))

  pub line_member : (m : Member) → IsMemberOfBytes m → option_and_then (member_of read) (document (json_text (member_json shown m))) ≡ Some m
  line_member m h = search (rules, option_and_then, line_document, parts_back, end_back)

-- for the search
pub ruleset read_back = (items_read, digits_read, line_document, line_member)
