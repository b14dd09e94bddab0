use Rattle.bolt_recover.proofs.Words.{StepsOn, steps_weight}
use Rattle.bolt_recover.proofs.steps.Steps.advance.Given as goal

-- nothing was returned yet
abbrev pub invariant-loop-self : goal.invariant-loop-self
invariant-loop-self l = StepsOn l.fn.self l.self

abbrev pub decreases-loop-self : goal.decreases-loop-self
decreases-loop-self l = steps_weight l.self
