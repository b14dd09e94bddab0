use Rattle.bolt_recover.proofs.{Recovering.reported_first}
use Rattle.bolt_recover.specs.Recoveries.{recovery_viewers}
use Rattle.bolt_recover.proofs.recovery.Recovery.losses.Goals as goal

pub returns-clause-first : goal.returns-clause-first
unfolding recovery_viewers
returns-clause-first c = reported_first c.args.self.now.on
