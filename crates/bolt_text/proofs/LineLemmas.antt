-- The first line of a text ends at the first line feed, or with the text.
use Rattle.std.proofs.Common.{◌≡◌, ◌∙◌, ◌==◌, ◌<◌, ℕ, List, [], ◌∷◌, ◌++◌, true, false, length, refl, sym, ap, arith, append_assoc, append-nil}
use Rattle.bolt_text.proofs.Vocabulary.{IsCutAt, IsFirstLine, IsWithout, lines_of, nat_tests, slice_split, Text}
use Rattle.bolt_text.proofs.CutLemmas.{cut_is_shorter, parts_cut, parts_whole, some_parts}
use Rattle.bolt_text.specs.Lines.{without_empty_end}

-- before other parts, a part is a line also if it is empty
first_part : (line : Text) (parts : List Text) → 0 < length parts → without_empty_end (line ∷ parts) ≡ line ∷ without_empty_end parts
first_part line [] some = absurd (omega (arith, some))
first_part line (next ∷ parts) some = refl

pub lines_cut : (text line after : Text) → IsCutAt 10 text line after → lines_of text ≡ line ∷ lines_of after
unfolding lines_of
lines_cut text line after cut =
    ap without_empty_end (parts_cut 10 text line after cut) ∙ first_part line (slice_split (λ byte. byte == 10) after) (some_parts 10 after)

pub cut_line : (text line after : Text) → IsCutAt 10 text line after → IsFirstLine text line after
cut_line text line after cut = record {
  lines = lines_cut text line after cut;
  shorter = cut_is_shorter 10 text line after cut;
  front = line ++ 10 ∷ [];
  whole = cut.whole ∙ sym (append_assoc line (10 ∷ []) after);
  others = λ some other.
      ap lines_of (append_assoc line (10 ∷ []) other)
      ∙ lines_cut (line ++ 10 ∷ other) line other (record { whole = refl; first = cut.first });
}

pub no_lines : lines_of [] ≡ []
unfolding lines_of
no_lines = refl

only_line : (byte : ℕ) (text : Text) → without_empty_end ((byte ∷ text) ∷ []) ≡ (byte ∷ text) ∷ []
only_line byte text = rw (not_none byte text) refl
  where
    not_none : (byte : ℕ) (text : Text) → (length (byte ∷ text) == 0) ≡ false
    not_none byte text = grind (arith, nat_tests)

lines_last : (text : Text) → (text ≡ [] → ⊥) → IsWithout 10 text → lines_of text ≡ text ∷ []
unfolding lines_of
lines_last [] some without = absurd (some refl)
lines_last (byte ∷ text) some without = ap without_empty_end (parts_whole 10 (byte ∷ text) without) ∙ only_line byte text

pub last_line : (text : Text) → (text ≡ [] → ⊥) → IsWithout 10 text → IsFirstLine text text []
last_line [] some without = absurd (some refl)
last_line (byte ∷ text) some without = record {
  lines = lines_last (byte ∷ text) some without ∙ ap (λ lines. (byte ∷ text) ∷ lines) (sym no_lines);
  shorter = omega arith;
  front = byte ∷ text;
  whole = sym (append-nil (byte ∷ text));
  others = λ none. absurd (none refl);
}

pub not_empty : (text : Text) → (length text == 0) ≡ false → text ≡ [] → ⊥
not_empty text some none = absurd (let is : (length text == 0) ≡ true = ap (λ (t : Text). length t == 0) none in cc)
