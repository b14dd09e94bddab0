use Rattle.bolt_etcd.proofs.StoreExists.{one_store}
use Rattle.bolt_etcd.proofs.laws.a_root_bucket_has_one_store.Goals as goal

pub returns : goal.returns
returns c = one_store
