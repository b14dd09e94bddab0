-- A line of three words has these words and tells the member of these, and no other line has or tells any.
use Rattle.std.proofs.Common.{◌≡◌, ◌∙◌, ◌==◌, ◌<◌, List, [], ◌∷◌, Option, Some, None, true, false, length, refl, ap, arith}
use Rattle.bolt_text.proofs.Vocabulary.{hex_path_in, is_some, IsCutAt, IsWithout, Item, item_in, line_member, Member, member_in, option_and_then}
use Rattle.bolt_text.proofs.Vocabulary.{option_map, Path, slice_split, Text}
use Rattle.bolt_text.specs.LineWords.{last_word, line_words, three_words}
use Rattle.bolt_text.proofs.CutLemmas.{parts_cut, parts_whole, some_parts}
use Rattle.std.specs.Borrow.{Bor}
use Rattle.std.specs.Prelude.{MatchOption}

-- the line doesn't have three words, and tells no member
abbrev HasNone : Text → Type 0
HasNone line = (line_words line ≡ None) × (line_member line ≡ None)

pub one_word : (line : Text) → IsWithout 32 line → HasNone line
unfolding line_member line_words
one_word line without = let is = parts_whole 32 line without in (ap three_words is, ap member_in is)

module _ (line path rest : Text) (first : IsCutAt 32 line path rest) where
  pub two_words : IsWithout 32 rest → HasNone line
  unfolding line_member line_words
  two_words without =
      let is = parts_cut 32 line path rest first ∙ ap (λ words. path ∷ words) (parts_whole 32 rest without) in (ap three_words is, ap member_in is)

  module _ (mark word : Text) (second : IsCutAt 32 rest mark word) where
    cut_twice : slice_split (λ byte. byte == 32) line ≡ path ∷ mark ∷ slice_split (λ byte. byte == 32) word
    cut_twice = parts_cut 32 line path rest first ∙ ap (λ words. path ∷ words) (parts_cut 32 rest mark word second)

    cut_in_three : IsWithout 32 word → slice_split (λ byte. byte == 32) line ≡ path ∷ mark ∷ word ∷ []
    cut_in_three without = cut_twice ∙ ap (λ words. path ∷ mark ∷ words) (parts_whole 32 word without)

    four : (third : Text) (words : List Text) → 0 < length words
        → (three_words (path ∷ mark ∷ third ∷ words) ≡ None) × (member_in (path ∷ mark ∷ third ∷ words) ≡ None)
    four third [] some = absurd (omega (arith, some))
    four third (more ∷ words) some = (refl, refl)

    four_words : (third after : Text) → IsCutAt 32 word third after → HasNone line
    unfolding line_member line_words
    four_words third after more =
        let is = cut_twice ∙ ap (λ words. path ∷ mark ∷ words) (parts_cut 32 word third after more) in
        let (none, no_member) = four third (slice_split (λ byte. byte == 32) after) (some_parts 32 after) in
        (ap three_words is ∙ none, ap member_in is ∙ no_member)

    module _ (cut : Option (Bor Text × Bor Text)) (found : MatchOption cut (IsWithout 32 word) (λ cut. IsCutAt 32 word cut.0.now cut.1.now)) where
      pub more_words : is_some cut ≡ true → HasNone line
      more_words more = at cut found more
        where
          at : (cut : Option (Bor Text × Bor Text)) → MatchOption cut (IsWithout 32 word) (λ cut. IsCutAt 32 word cut.0.now cut.1.now)
              → is_some cut ≡ true → HasNone line
          at None found more = absurd (cc)
          at (Some (third, after)) found more = four_words third.now after.now found

      no_more : (cut : Option (Bor Text × Bor Text)) → MatchOption cut (IsWithout 32 word) (λ cut. IsCutAt 32 word cut.0.now cut.1.now)
          → is_some cut ≡ false → IsWithout 32 word
      no_more None found last = found
      no_more (Some cut) found last = absurd (cc)

      pub words_shown : is_some cut ≡ false → line_words line ≡ option_map (λ item. (path, item)) (last_word mark word)
      unfolding line_words
      words_shown last = ap three_words (cut_in_three (no_more cut found last))

      pub words_item : (item : Option Item) → is_some cut ≡ false → item_in mark word ≡ item
          → line_member line ≡ option_and_then (λ path. option_map (λ item. (path, item)) item) (hex_path_in path)
      unfolding line_member
      words_item item last is =
          ap member_in (cut_in_three (no_more cut found last))
          ∙ ap (λ found. option_and_then (λ (path : Path). option_map (λ (item : Item). (path, item)) found) (hex_path_in path)) is

pub no_item : (path : Text) → option_and_then {U = Member} (λ path. option_map (λ item. (path, item)) None) (hex_path_in path) ≡ None
no_item path = nothing (hex_path_in path)
  where
    nothing : (found : Option Path) → option_and_then {U = Member} (λ path. option_map (λ item. (path, item)) None) found ≡ None
    nothing None = refl
    nothing (Some path) = refl
