-- Nothing is open, and all is left.
use Rattle.std.proofs.Common.{◌∙◌, refl, sym}
use Rattle.bolt_bulk.proofs.PassEnds.{has_begun}
use Rattle.bolt_bulk.proofs.pass.Pass.new.Goals as goal

pub returns-clause-at : goal.returns-clause-at
returns-clause-at c =
    λ wanted asked fit.
    has_begun wanted _ c.new.ensures.items refl (c.new-2.ensures.runs 3) refl refl (c.new-4.ensures.notes ∙ sym asked) c.new-4.ensures.none fit
