use Rattle.bolt_recover.proofs.{Words.recovery_left, Recovering.left_all}
use Rattle.bolt_recover.proofs.recovery.Recovery.under.Goals as goal

pub returns-clause-all : goal.returns-clause-all
unfolding recovery_left
returns-clause-all c = λ listing recovered.
    let new = c.in_ok-steps.ensures in
    left_all _ _ _ c.in_ok-steps.steps listing new.all (rw (← c.in_ok-claims.ensures.file, ← c.in_ok-claims.ensures.meta) at recovered)
