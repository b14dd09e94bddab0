use Rattle.bolt_repair.proofs.OneRepair.{one_repaired}
use Rattle.bolt_repair.proofs.laws.repaired_listing_is_one.Goals as goal

pub returns : goal.returns
returns c = λ file meta search. one_repaired file meta search (c.sought_pages_are_one.ensures file meta search)
