use Rattle.bolt_etcd.proofs.NothingFound.{nothing_found}
use Rattle.bolt_etcd.proofs.laws.nothing_is_found_in_a_whole_store.Goals as goal

pub returns : goal.returns
returns c = λ ts compacted keeps possible compaction store is grants. nothing_found compacted ts keeps possible compaction store is grants
