use Rattle.bolt_recover.proofs.FoundAll.{one_found}
use Rattle.bolt_recover.proofs.laws.found_pages_are_one.Goals as goal

pub returns : goal.returns
returns c = one_found
