-- The root page was kept before.
use Rattle.bolt_recover.specs.Recoveries.{recovery_viewers}
use Rattle.bolt_recover.proofs.Recovering.{left_all}
use Rattle.bolt_recover.proofs.recovery.Recovery.restart.Goals as goal

pub returns-clause-all : goal.returns-clause-all
unfolding recovery_viewers
returns-clause-all c = λ listing recovered. left_all _ _ _ c.restart.new.self listing c.in_ok-restart.ensures.all (rw (← c.args.self.now.on.meta) at recovered)
