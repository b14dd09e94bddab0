-- A text is cut at a byte as `slice_split` cuts it.
use Rattle.std.proofs.Common.{◌≡◌, ◌∙◌, ◌==◌, ◌<◌, ℕ, [], ◌∷◌, length, ap, arith, length-append}
use Rattle.std.proofs.lemmas.List.Splits.{length-slice_split}
use Rattle.std.proofs.Common.{refl}
use Rattle.std.proofs.lemmas.Bool.{eq-eqb}
use Rattle.bolt_text.proofs.Vocabulary.{IsCutAt, IsWithout, slice_split, slice_split_at, slice_split_none, Text}

pub parts_cut : (mark : ℕ) (text before after : Text) → IsCutAt mark text before after
    → slice_split (λ byte. byte == mark) text ≡ before ∷ slice_split (λ byte. byte == mark) after
parts_cut mark text before after cut =
    ap (slice_split (λ byte. byte == mark)) cut.whole ∙ slice_split_at (λ byte. byte == mark) before mark after cut.first (eq-eqb mark mark refl)

pub parts_whole : (mark : ℕ) (text : Text) → IsWithout mark text → slice_split (λ byte. byte == mark) text ≡ text ∷ []
parts_whole mark text without = slice_split_none (λ byte. byte == mark) text without

pub some_parts : (mark : ℕ) (text : Text) → 0 < length (slice_split (λ byte. byte == mark) text)
some_parts mark text = let is = length-slice_split (λ byte. byte == mark) text in omega (arith, is)

pub cut_is_shorter : (mark : ℕ) (text before after : Text) → IsCutAt mark text before after → length after < length text
cut_is_shorter mark text before after cut = let is = ap length cut.whole ∙ length-append before (mark ∷ after) in omega (arith, is)
