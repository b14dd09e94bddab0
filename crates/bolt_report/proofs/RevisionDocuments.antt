-- Revisions as JSON: their text, and that they are read back.
use Rattle.std.proofs.Common.{◌≡◌, ◌∙◌, ℕ, zero, suc, ◌<◌, ◌≤◌, ◌/◌, ◌%◌, ◌^◌, ◌++◌, Bool, true, false, List, [], ◌∷◌, Option, Some, ap, append_assoc}
use Rattle.std.proofs.Common.{arith, codes, decimal, get_or, length, map, option_and_then, refl, sym}
use Rattle.std.proofs.{lemmas.Bool.cond_both, lemmas.Fmt.digits_is_IsNumeral, lemmas.List.FromFn.get_or-map-range_with_len}
use Rattle.std.specs.{Fmt.digit_glyph, Fmt.digits, Fmt.digits_onto, List.range_with_len, Str.Parse.digits_value}
use Rattle.std.specs.Prelude.{if◌then◌else◌}
use Rattle.json.proofs.{Printed.Decimals.IsNumber-decimal, Printed.Tokens.print_from-append, Printed.Trees.document-print}
use Rattle.json.specs.{Json.Json, Json.document, Json.no_members, Print.escape, Print.escape_byte, Print.print_from, Token.Token}
use Rattle.json.specs.Tree.{HasNumbers, MembersHaveNumbers, json_tokens, members_depth, members_tokens}
use Rattle.bolt_text.proofs.Exports.{Reads, digits_read, items_read, numeral_back}
use Rattle.bolt_text.specs.{Forms.digits_json, Forms.item_json, Forms.json_text, JsonReadings.digits_of, JsonReadings.item_in_json, Lines.line}
use Rattle.bolt_text.specs.declared.forms.Form.TheVariants as form
use Rattle.bolt_report.specs.RevisionLines.{members, revision_line}
use Rattle.bolt_report.specs.RevisionObjects.{IsOfBytes, ReadsRevisionsBack, as_read, read_revision, revision_json, value_member}
use Rattle.bolt_etcd.specs.Wire.Revisions.{RevisionView}

-- ---- digits in hexadecimal need no escapes

-- each of the 16 was tried
all_glyphs : map (λ (d : ℕ). escape_byte (digit_glyph false d)) (range_with_len 0 16) ≡ map (λ (d : ℕ). digit_glyph false d ∷ []) (range_with_len 0 16)
unfolding escape_byte
all_glyphs = refl

nth : (f : ℕ → List ℕ) (d : ℕ) → d < 16 → get_or (map f (range_with_len 0 16)) d [] ≡ f d
nth f d small = get_or-map-range_with_len f 0 16 d d [] small (omega arith)

glyph_plain : (d : ℕ) → d < 16 → escape_byte (digit_glyph false d) ≡ digit_glyph false d ∷ []
glyph_plain d small =
    sym (nth (λ (d : ℕ). escape_byte (digit_glyph false d)) d small)
    ∙ (ap (λ (texts : List (List ℕ)). get_or texts d []) all_glyphs ∙ nth (λ (d : ℕ). digit_glyph false d ∷ []) d small)

one_more : (n : ℕ) (later : List ℕ) → escape later ≡ later → escape (digit_glyph false (n % 16) ∷ later) ≡ digit_glyph false (n % 16) ∷ later
one_more n later plain = λ i. glyph_plain (n % 16) (omega arith) i ++ plain i

digits_plain : (k n : ℕ) (later : List ℕ) → escape later ≡ later → escape (digits_onto k 16 false n later) ≡ digits_onto k 16 false n later
digits_plain zero n later plain = plain
digits_plain (suc k) n later plain =
    cond_both _ _ _ (λ text. escape text ≡ text) (λ e. one_more n later plain) (λ e. digits_plain k (n / 16) _ (one_more n later plain))

lease_plain : (n : ℕ) → escape (digits 16 false n) ≡ digits 16 false n
unfolding digits
lease_plain n = digits_plain 64 n [] refl

-- ---- the text of the object

-- A name or a value ends before what follows it.
abbrev Closes : (List ℕ → Json) → Type 0
Closes shown = (bytes : List ℕ) (later : List Token) → print_from false (json_tokens (shown bytes) ++ later) ≡ json_text (shown bytes) ++ print_from true later

digits_close : Closes digits_json
digits_close bytes later = print_from-append false (json_tokens (digits_json bytes)) later

items_close : Closes item_json
items_close bytes later = grind (arith, cond_both, print_from-append)

-- up to the name, and from there on
abbrev opened : RevisionView → (lease rest : List ℕ) → List ℕ
opened r lease rest =
    codes "{\"revision\":" ++ (decimal r.key.main ++ (codes ",\"sub\":" ++ (decimal r.key.sub ++ (codes ",\"created\":" ++ (decimal r.content.created
    ++ (codes ",\"version\":" ++ (decimal r.content.version ++ (codes ",\"lease\":\"" ++ (lease
    ++ (codes "\",\"bytes\":" ++ (decimal (length r.content.value) ++ (codes ",\"name\":" ++ rest))))))))))))

module _ (shown : List ℕ → Json) (closes : Closes shown) where
  -- the value, and the end of the line
  abbrev ended : (values : Bool) → RevisionView → List ℕ
  ended values r = (if values then codes ",\"value\":" ++ json_text (shown r.content.value) else []) ++ codes "}\n"

  end_text : (values : Bool) (r : RevisionView) → line (print_from true (members_tokens (value_member shown values r))) ≡ ended values r
  unfolding print_from escape_byte
  end_text false r = refl
  end_text true r = ap (λ (text : List ℕ). line (codes ",\"value\":" ++ text)) (closes r.content.value (members_tokens no_members)) ∙ (simp append_assoc)

  object_text : (values : Bool) (r : RevisionView)
      → json_text (revision_json shown values r)
      ≡ opened r (escape (digits 16 false r.content.lease))
      (print_from false (json_tokens (shown r.content.name) ++ members_tokens (value_member shown values r)))
  unfolding print_from escape_byte
  object_text values r = simp append_assoc

  pub line_text : (values : Bool) (r : RevisionView)
      → members r ++ (json_text (shown r.content.name) ++ ended values r) ≡ line (json_text (revision_json shown values r))
  unfolding members
  line_text values r =
      let name = json_text (shown r.content.name) in
      let rest = print_from true (members_tokens (value_member shown values r)) in
      let lease = digits 16 false r.content.lease in
      let whole : line (opened r lease (name ++ rest)) ≡ opened r lease (name ++ line rest) = simp append_assoc in
      let front : members r ++ (name ++ ended values r) ≡ opened r lease (name ++ ended values r) = simp append_assoc in
      front ∙ (ap (λ (text : List ℕ). opened r lease (name ++ text)) (sym (end_text values r)) ∙ (sym whole
      ∙ sym (ap line (object_text values r
      ∙ (λ i. opened r (lease_plain r.content.lease i) (closes r.content.name (members_tokens (value_member shown values r)) i))))))

pub json_text_of : (values : Bool) (r : RevisionView) → revision_line form.Json values r ≡ line (json_text (revision_json item_json values r))
json_text_of true r = line_text item_json items_close true r
json_text_of false r = line_text item_json items_close false r

pub hex_text_of : (values : Bool) (r : RevisionView) → revision_line form.JsonHex values r ≡ line (json_text (revision_json digits_json values r))
hex_text_of true r = line_text digits_json digits_close true r
hex_text_of false r = line_text digits_json digits_close false r

-- ---- read back

lease_back : (n : ℕ) → n < 2 ^ 64 → digits_value 16 (digits 16 false n) ≡ n
lease_back n fits = (digits_is_IsNumeral 16 false (omega arith) (omega arith) n (omega (arith, fits))).1

module _ (shown : List ℕ → Json) (read : Json → Option (List ℕ)) (reads : Reads shown read) where
  value_numbers : (values : Bool) (r : RevisionView) → MembersHaveNumbers (value_member shown values r)
  value_numbers true r = (reads.numbers r.content.value, tt)
  value_numbers false r = tt

  value_depth : (values : Bool) (r : RevisionView) → members_depth (value_member shown values r) ≤ 1
  value_depth true r = omega (arith, reads.shallow r.content.value)
  value_depth false r = omega arith

  has_numbers : (values : Bool) (r : RevisionView) → IsOfBytes r → HasNumbers (revision_json shown values r)
  has_numbers values r is = (
    IsNumber-decimal r.key.main is.main,
    (
      IsNumber-decimal r.key.sub is.sub,
      (
        IsNumber-decimal r.content.created is.created,
        (
          IsNumber-decimal r.content.version is.version,
          (tt, (IsNumber-decimal (length r.content.value) is.bytes, (reads.numbers r.content.name, value_numbers values r))),
        ),
      ),
    ),
  )

  pub revision_back : (values : Bool) (r : RevisionView) → IsOfBytes r
      → option_and_then (read_revision read) (document (json_text (revision_json shown values r))) ≡ Some (as_read values r)
  revision_back values r is =
      ap (option_and_then (read_revision read))
      (document-print (revision_json shown values r) (has_numbers values r is) (omega (arith, reads.shallow r.content.name, value_depth values r)))
      ∙ all_found values
    where
      all_found : (values : Bool) → read_revision read (revision_json shown values r) ≡ Some (as_read values r)
      all_found true =
          rw (
            numeral_back r.key.main is.main,
            numeral_back r.key.sub is.sub,
            numeral_back r.content.created is.created,
            numeral_back r.content.version is.version,
            lease_back r.content.lease is.lease,
            numeral_back (length r.content.value) is.bytes,
            reads.back r.content.name is.name,
            reads.back r.content.value is.value,
          ) refl
      all_found false =
          rw (
            numeral_back r.key.main is.main,
            numeral_back r.key.sub is.sub,
            numeral_back r.content.created is.created,
            numeral_back r.content.version is.version,
            lease_back r.content.lease is.lease,
            numeral_back (length r.content.value) is.bytes,
            reads.back r.content.name is.name,
          ) refl

pub items_back : ReadsRevisionsBack item_in_json item_json
items_back = revision_back item_json item_in_json items_read

pub digits_back : ReadsRevisionsBack digits_of digits_json
digits_back = revision_back digits_json digits_of digits_read

-- for the search
pub ruleset read_back = (json_text_of, hex_text_of, items_back, digits_back)
