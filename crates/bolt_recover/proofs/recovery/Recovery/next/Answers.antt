use Rattle.std.proofs.Common.{arith}
use Rattle.bolt_recover.specs.Recoveries.{recovery_viewers}
use Rattle.bolt_recover.proofs.Words.{visited_fits, ∥∥₁_elim}
use Rattle.bolt_recover.proofs.Recovering.{claimed_ended, gaps_ended, placed_prop, reported_ended, visited_ended}
use Rattle.bolt_recover.proofs.recovery.Recovery.next.Goals as goal

pub advance-requires : goal.advance-requires
advance-requires c = ∥∥₁_elim c.args.self.now.placed (placed_prop c.args.self.now.steps) (λ placed. placed)

pub returns-in-None-clause-all : goal.returns-in-None-clause-all
unfolding recovery_viewers
returns-in-None-clause-all c = reported_ended c.args.self.now.on (rw c.in-None.is at c.in_ok-leaf.ensures.given)

pub returns-in-None-clause-visited : goal.returns-in-None-clause-visited
unfolding recovery_viewers
returns-in-None-clause-visited c = λ ways are.
    let all = visited_ended c.args.self.now.on (rw c.in-None.is at c.in_ok-leaf.ensures.given) ways are in
    let fits = visited_fits c.advance.new.self.claims in
    omega (arith, all, fits)

pub returns-in-None-clause-kept : goal.returns-in-None-clause-kept
unfolding recovery_viewers
returns-in-None-clause-kept c = claimed_ended c.args.self.now.on (rw c.in-None.is at c.in_ok-leaf.ensures.given)

pub returns-in-None-clause-gaps : goal.returns-in-None-clause-gaps
unfolding recovery_viewers
returns-in-None-clause-gaps c = gaps_ended c.args.self.now.on (rw c.in-None.is at c.in_ok-leaf.ensures.given)
