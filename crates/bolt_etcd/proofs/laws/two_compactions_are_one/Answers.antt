use Rattle.bolt_etcd.proofs.CompactionsAdded.{added_up}
use Rattle.bolt_etcd.proofs.laws.two_compactions_are_one.Goals as goal

pub returns : goal.returns
returns c = λ ts early late first second le. added_up ts early late le first second
