use Rattle.bolt_check.proofs.Single.{first_one}
use Rattle.bolt_check.proofs.laws.first_finding_is_one.Goals as goal

pub returns : goal.returns
returns c = first_one
