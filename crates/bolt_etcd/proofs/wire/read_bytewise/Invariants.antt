use Rattle.bolt_etcd.proofs.Varints.{Goes}
use Rattle.bolt_etcd.proofs.wire.read_bytewise.Given as goal

abbrev pub invariant-loop-i : goal.invariant-loop-i
invariant-loop-i l = Goes l.bytes l.i l.value l.rest
