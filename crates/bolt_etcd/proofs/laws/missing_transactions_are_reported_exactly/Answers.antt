use Rattle.bolt_etcd.proofs.MissingExact.{missing_reported}
use Rattle.bolt_etcd.proofs.laws.missing_transactions_are_reported_exactly.Goals as goal

pub returns : goal.returns
returns c = λ compacted rs rises t. missing_reported compacted t rs rises
