use Rattle.bolt_etcd.proofs.StatesKept.{currents_held}
use Rattle.bolt_etcd.proofs.laws.keys_are_those_of_the_state.Goals as goal

pub returns : goal.returns
returns c = λ ts compacted keeps possible compaction at current le. currents_held compacted at ts keeps possible compaction le current
