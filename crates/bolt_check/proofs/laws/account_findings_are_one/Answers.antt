use Rattle.bolt_check.proofs.AccountFindingsOnce.{account_findings_once}
use Rattle.bolt_check.proofs.laws.account_findings_are_one.Goals as goal

pub returns : goal.returns
returns c = account_findings_once
