use Rattle.bolt_etcd.proofs.SnapshotLemmas.{cut_fault}
use Rattle.bolt_etcd.proofs.laws.hashed_blocks_are_a_snapshot.Goals as goal

pub returns-clause-cut : goal.returns-clause-cut
returns-clause-cut c = cut_fault
