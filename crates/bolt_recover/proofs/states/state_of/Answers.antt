use Rattle.std.proofs.Common.{◌∙◌, ap, length, refl, sym}
use Rattle.std.proofs.lemmas.List.{length-map}
use Rattle.bolt_recover.proofs.Words.{loss_view}
use Rattle.bolt_recover.specs.States.{counted32}
use Rattle.bolt_recover.proofs.states.state_of.Goals as goal

pub returns : goal.returns
returns c = (
  refl,
  λ losses are.
      let all = (rw c.in-Some.is at c.in_ok-figures.ensures.all) losses are in
      c.few.ensures ∙ ap counted32 (sym (length-map _ loss_view) ∙ ap length (c.losses.ensures.losses ∙ all)),
  rw c.in-Some.is at c.in_ok-figures.ensures.count,
)
