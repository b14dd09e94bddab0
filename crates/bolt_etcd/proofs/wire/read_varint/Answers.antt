use Rattle.bolt_etcd.proofs.Varints.{one_byte}
use Rattle.bolt_etcd.proofs.wire.read_varint.Goals as goal

pub returns-then-byte-lt128-clause-read : goal.returns-then-byte-lt128-clause-read
returns-then-byte-lt128-clause-read c = one_byte _ _ _ _ c.in_ok-byte.ensures.cases.0 c.if-byte-lt128.true c.from.ensures
