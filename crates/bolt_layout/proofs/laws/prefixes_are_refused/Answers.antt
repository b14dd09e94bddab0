use Rattle.bolt_layout.proofs.Prefixes.{prefixes_refused}
use Rattle.bolt_layout.proofs.laws.prefixes_are_refused.Goals as goal

pub returns : goal.returns
returns c = prefixes_refused
