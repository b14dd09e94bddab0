use Rattle.std.proofs.Common.{◌∷◌, Bor, List, ℕ}
use Rattle.bolt_text.proofs.{Vocabulary.part_text, Vocabulary.separator, Vocabulary.slice_get-get_or, GatherLemmas.Gathers-element}
use Rattle.bolt_text.proofs.{GatherLemmas.Gathers-last_element}
use Rattle.bolt_text.proofs.path_pieces.put_parts_after.Goals as goal

pub returns-in_err-put_part_after : goal.returns-in_err-put_part_after
returns-in_err-put_part_after g c =
    Gathers-last_element (λ (part : Bor (List ℕ)). separator c.args.form ∷ part_text c.args.form part.now) c.args.parts.now c.loop-part.part-index _ _
    (slice_get-get_or _ _ _ c.loop-part-test.true) c.loop-part.invariant c.in_err-put_part_after.ensures c.from_residual.ensures.0

pub loop-part-preserved : goal.loop-part-preserved
loop-part-preserved g c =
    Gathers-element (λ (part : Bor (List ℕ)). separator c.args.form ∷ part_text c.args.form part.now) c.args.parts.now c.loop-part.part-index _
    (slice_get-get_or _ _ _ c.loop-part-test.true) c.loop-part.invariant c.in_ok-put_part_after.ensures
