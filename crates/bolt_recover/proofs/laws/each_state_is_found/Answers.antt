use Rattle.bolt_recover.proofs.StatesExist.{each_state}
use Rattle.bolt_recover.proofs.laws.each_state_is_found.Goals as goal

pub returns : goal.returns
returns c = each_state
