use Rattle.bolt_repair.proofs.RepairLaws.{one_of_a_name}
use Rattle.bolt_repair.proofs.laws.at_most_one_of_a_name_goes_back.Goals as goal

pub returns : goal.returns
returns c = one_of_a_name
