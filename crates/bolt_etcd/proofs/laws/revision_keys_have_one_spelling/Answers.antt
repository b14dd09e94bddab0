use Rattle.bolt_etcd.proofs.Keys.{read_spelled}
use Rattle.bolt_etcd.proofs.laws.revision_keys_have_one_spelling.Goals as goal

pub returns-clause-spelled : goal.returns-clause-spelled
returns-clause-spelled c = λ bytes key are is. read_spelled bytes key are is
