use Rattle.bolt_etcd.proofs.SortedExists.{by_name_is_one, current_is_one}
use Rattle.bolt_etcd.proofs.laws.revisions_have_one_order_by_name.Goals as goal

pub returns : goal.returns
returns c = record { by_name = by_name_is_one; current = current_is_one }
