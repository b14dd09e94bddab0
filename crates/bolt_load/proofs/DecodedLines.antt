-- The lines of a text are decoded one after another.
use Rattle.std.proofs.Common.{rules, ◌≡◌, ◌∙◌, ◌<◌, ◌-◌, ℕ, List, [], ◌∷◌, ◌++◌, Option, Some, None, length, get_or, take, refl, sym, ap, subst}
use Rattle.std.proofs.Common.{arith, append_assoc, append-nil, length-append}
use Rattle.std.proofs.lemmas.Grind.{common_steps, flat_map-append}
use Rattle.bolt_load.proofs.Words.{AddsDecoded, All, All-append, AreDecoded, filter_map-append, flat_map, IfSome, IsFirstLine, IsSome, length_fault}
use Rattle.bolt_load.proofs.Words.{line_member, LineFault, lines_of, Member, member_bytes, members_of_lines, NotALine, option_map, option_map_or}
use Rattle.bolt_load.proofs.Words.{shape_fault, StopsAt, take-append_seam, Text}
use Rattle.bolt_text.proofs.Exports.{no_lines}
use Rattle.std.specs.Prelude.{zero, suc}

-- ---- lines that are right in themselves

abbrev pub IsShaped : Text → Type 0
IsShaped line = shape_fault line ≡ None

pub shaped_member : (line : Text) → IsShaped line → (member : Member) × (line_member line ≡ Some member)
shaped_member line shaped = at (line_member line) refl
  where
    at : (found : Option Member) → line_member line ≡ found → (member : Member) × (line_member line ≡ Some member)
    at None is = absurd (let f : Some NotALine ≡ None = sym (ap (λ found. option_map_or length_fault found (Some NotALine)) is) ∙ shaped in cc)
    at (Some member) is = (member, is)

pub member_alone : (line : Text) (member : Member) → line_member line ≡ Some member → members_of_lines (line ∷ []) ≡ member ∷ []
member_alone line member is = rw is refl

pub members_push : (front : List Text) (line : Text) (member : Member) → line_member line ≡ Some member
    → members_of_lines (front ++ line ∷ []) ≡ members_of_lines front ++ member ∷ []
members_push front line member is = filter_map-append line_member front (line ∷ []) ∙ ap (λ more. members_of_lines front ++ more) (member_alone line member is)

bytes_push : (listing : List Member) (member : Member)
    → flat_map member_bytes (listing ++ member ∷ []) ≡ flat_map member_bytes listing ++ member_bytes member
bytes_push listing member =
    flat_map-append member_bytes listing (member ∷ []) ∙ ap (λ more. flat_map member_bytes listing ++ more) (append-nil (member_bytes member))

says : (line : Text) → IsShaped line → IsSome (line_member line)
says line shaped = let found = shaped_member line shaped in subst IsSome (sym found.1) refl

pub all_say : (lines : List Text) → All IsShaped lines → All (λ line. IsSome (line_member line)) lines
all_say lines shaped = λ k d below. says _ (shaped k d below)

begins_with : (front after bytes : List ℕ) → bytes ≡ front ++ after → take (length front) bytes ≡ front
begins_with front after bytes is = ap (take (length front)) is ∙ take-append_seam front after

-- ---- the lines so far

-- the lines before the rest of a text are right in themselves, and these are their bytes
pub record HasDecoded (text rest : Text) (bytes : List ℕ) : Type 0 where
  pub front : List Text
  pub head : Text
  pub whole : text ≡ head ++ rest
  pub lines : lines_of text ≡ front ++ lines_of rest
  pub others : (rest ≡ [] → ⊥) → (other : Text) → lines_of (head ++ other) ≡ front ++ lines_of other
  pub shaped : All IsShaped front
  pub bytes_are : bytes ≡ flat_map member_bytes (members_of_lines front)

none_shaped : All IsShaped []
none_shaped = λ k d below. absurd (omega (arith, below))

one_shaped : (line : Text) → IsShaped line → All IsShaped (line ∷ [])
one_shaped line shaped = λ k d below. at k d below
  where
    at : (k : ℕ) (d : Text) → k < 1 → IsShaped (get_or (line ∷ []) k d)
    at zero d below = shaped
    at (suc k) d below = absurd (omega (arith, below))

pub none_decoded : (text : Text) → HasDecoded text text []
none_decoded text = record { front = []; head = []; whole = refl; lines = refl; others = λ some other. refl; shaped = none_shaped; bytes_are = refl }

pub not_nil : (text line after : Text) → IsFirstLine text line after → text ≡ [] → ⊥
not_nil text line after first none = let below = first.shorter in let same = ap length none in omega (arith, below, same)

module _ (text rest : Text) (bytes new : List ℕ) (so_far : HasDecoded text rest bytes) where
  module _ (line after : Text) (first : IsFirstLine rest line after) where
    pub line_decoded : None ≡ shape_fault line → AddsDecoded (option_map member_bytes (line_member line)) bytes new → HasDecoded text after new
    line_decoded shaped adds =
        let found = shaped_member line (sym shaped) in
        let more : adds.more ≡ member_bytes found.0 = adds.are (member_bytes found.0) (ap (option_map member_bytes) found.1) in
        record {
          front = so_far.front ++ line ∷ [];
          head = so_far.head ++ first.front;
          whole = so_far.whole ∙ ap (λ rest. so_far.head ++ rest) first.whole ∙ sym (append_assoc so_far.head first.front after);
          lines = so_far.lines ∙ ap (λ lines. so_far.front ++ lines) first.lines ∙ sym (append_assoc so_far.front (line ∷ []) (lines_of after));
          others = λ some other.
              ap lines_of (append_assoc so_far.head first.front other)
              ∙ so_far.others (not_nil rest line after first) (first.front ++ other)
              ∙ ap (λ lines. so_far.front ++ lines) (first.others some other)
              ∙ sym (append_assoc so_far.front (line ∷ []) (lines_of other));
          shaped = All-append IsShaped so_far.front (line ∷ []) so_far.shaped (one_shaped line (sym shaped));
          bytes_are =
              adds.added
              ∙ ap (λ bytes. bytes ++ adds.more) so_far.bytes_are
              ∙ ap (λ more. flat_map member_bytes (members_of_lines so_far.front) ++ more) more
              ∙ sym (ap (flat_map member_bytes) (members_push so_far.front line found.0 found.1) ∙ bytes_push (members_of_lines so_far.front) found.0);
        }

    head_lines : lines_of so_far.head ≡ so_far.front
    head_lines = search (rules, lines_of, append-nil, not_nil, no_lines)

    pub head_is : take (length text - length rest) text ≡ so_far.head
    head_is = grind (arith, common_steps, length-append)

    module _ (decoded : Text) (is : decoded ≡ so_far.head) where
      decoded_lines : lines_of decoded ≡ so_far.front
      decoded_lines = ap lines_of is ∙ head_lines

      pub front_decoded : {found : Option (List ℕ)} → AddsDecoded found bytes new → AreDecoded (lines_of decoded) new
      front_decoded adds = grind (arith, common_steps, decoded_lines, all_say, begins_with, flat_map, member_bytes)

      pub front_shaped : All IsShaped (lines_of decoded)
      front_shaped = subst (All IsShaped) (sym decoded_lines) so_far.shaped

      pub stops : (fault : Option LineFault) → fault ≡ shape_fault line → IfSome fault (StopsAt text decoded)
      stops fault shape = grind (arith, common_steps, lines_of, decoded_lines)

  module _ (none : rest ≡ []) where
    all_lines : lines_of text ≡ so_far.front
    all_lines = so_far.lines ∙ ap (λ rest. so_far.front ++ lines_of rest) none ∙ ap (λ lines. so_far.front ++ lines) no_lines ∙ append-nil so_far.front

    pub all_decoded : AreDecoded (lines_of text) bytes
    all_decoded = subst (λ (lines : List Text). AreDecoded lines bytes) (sym all_lines) (record {
      say = all_say so_far.front so_far.shaped;
      begin =
          begins_with (flat_map member_bytes (members_of_lines so_far.front)) [] bytes
          (so_far.bytes_are ∙ sym (append-nil (flat_map member_bytes (members_of_lines so_far.front))));
    })

    pub all_shaped : All IsShaped (lines_of text)
    all_shaped = subst (All IsShaped) (sym all_lines) so_far.shaped
