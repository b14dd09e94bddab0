use Rattle.bolt_recover.proofs.Recovering.{one_losses}
use Rattle.bolt_recover.proofs.laws.losses_are_one.Goals as goal

pub returns : goal.returns
returns c = one_losses
