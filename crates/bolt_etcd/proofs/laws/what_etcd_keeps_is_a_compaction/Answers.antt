use Rattle.bolt_etcd.proofs.EtcdCompacts.{etcd_compacts}
use Rattle.bolt_etcd.proofs.laws.what_etcd_keeps_is_a_compaction.Goals as goal

pub returns : goal.returns
returns c = λ ts new compacted possible. etcd_compacts ts new compacted possible
