use Rattle.std.proofs.Common.{◌≡◌, ◌∙◌, ◌==◌, Bool, List, inr, refl, ap, length, sym}
use Rattle.bolt_job.proofs.Vocabulary.{Bor, Text, each_part, list_any, list_any-map, part_of}
use Rattle.bolt_text.specs.declared.part_words.Parts.TheVariants as parts
use Rattle.bolt_job.proofs.{CommandLineLemmas.gives_same, PathReading.path_cut, PathReading.texts}
use Rattle.bolt_job.proofs.path_words.read_hex_path.Goals as goal

-- what the test says of the parts
tested : (cut kept : List (Bor Text)) (empty bad : Bool) → empty ≡ list_any (λ (part : Bor Text). length part.now == 0) kept → kept ≡ cut
    → empty ≡ bad
    → list_any (λ (part : Text). length part == 0) (texts cut) ≡ bad
tested cut kept empty bad says same is =
    sym (list_any-map (λ (part : Text). length part == 0) (λ (word : Bor Text). word.now) cut)
    ∙ ap (list_any (λ (part : Bor Text). length part.now == 0)) (sym same) ∙ sym says ∙ is

pub returns-then-has_empty : goal.returns-then-has_empty
returns-then-has_empty c =
    let cut = c.in_ok-parts.parts.items in
    inr (
      _,
      refl,
      path_cut c.args.word.now (texts cut) _ c.in_ok-parts.ensures
          (tested cut c.as_slice.result.now _ _ c.has_empty.ensures c.as_slice.ensures.value c.if-has_empty.true),
    )

pub returns : goal.returns
returns c =
    let cut = c.in_ok-parts.parts.items in
    gives_same _ _ _ c.read_path.result
    (path_cut c.args.word.now (texts cut) _ c.in_ok-parts.ensures
    (tested cut c.as_slice.result.now _ _ c.has_empty.ensures c.as_slice.ensures.value c.if-has_empty.false))
    (gives_same _ _ _ c.read_path.result (ap (λ (words : List (Bor Text)). each_part (part_of parts.Hex) (texts words)) (sym c.as_slice-2.ensures.value))
    c.read_path.ensures)
