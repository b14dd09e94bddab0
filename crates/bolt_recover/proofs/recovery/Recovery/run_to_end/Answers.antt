-- What was returned is looked at, and then all is reported.
use Rattle.std.proofs.Common.{arith}
use Rattle.bolt_recover.proofs.recovery.Recovery.run_to_end.Goals as goal

pub loop-self-init : goal.loop-self-init
loop-self-init c = grind (arith, c.requires)

pub returns-clause-all : goal.returns-clause-all
returns-clause-all c = rw (← c.loop-self.invariant.file, ← c.loop-self.invariant.meta) (rw c.in_default.is at c.in_ok-next.ensures.all)

pub returns-clause-number : goal.returns-clause-number
returns-clause-number c = λ listing is.
    let left = (rw (c.loop-self.invariant.file, c.loop-self.invariant.meta) at (rw c.in_default.is at c.in_ok-next.ensures.given)) listing is in
    let number = rw left.0 at (c.loop-self.invariant.number listing is) in
    omega (arith, number, c.loop-self.invariant.small)

pub returns-clause-gaps : goal.returns-clause-gaps
returns-clause-gaps c = rw (← c.loop-self.invariant.file, ← c.loop-self.invariant.meta) (rw c.in_default.is at c.in_ok-next.ensures.gaps)
