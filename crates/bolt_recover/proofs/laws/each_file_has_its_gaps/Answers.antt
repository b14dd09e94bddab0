use Rattle.bolt_recover.proofs.Recovering.{one_gaps}
use Rattle.bolt_recover.proofs.laws.each_file_has_its_gaps.Goals as goal

pub returns-clause-one : goal.returns-clause-one
returns-clause-one c = one_gaps
