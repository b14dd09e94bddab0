use Rattle.bolt_recover.proofs.FoundAll.{nothing_found}
use Rattle.bolt_recover.proofs.laws.nothing_lost_finds_nothing.Goals as goal

pub returns : goal.returns
returns c = nothing_found
