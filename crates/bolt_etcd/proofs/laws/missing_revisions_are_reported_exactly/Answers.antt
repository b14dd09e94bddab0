use Rattle.bolt_etcd.proofs.RevisionsExact.{revisions_reported}
use Rattle.bolt_etcd.proofs.laws.missing_revisions_are_reported_exactly.Goals as goal

pub returns : goal.returns
returns c = λ compacted rs rises t sub. revisions_reported t sub compacted rs rises
