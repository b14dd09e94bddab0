use Rattle.bolt_etcd.proofs.Varints.{ends, goes_on}
use Rattle.bolt_etcd.proofs.wire.read_bytewise.Goals as goal

pub returns-then-byte-lt128-clause-read : goal.returns-then-byte-lt128-clause-read
returns-then-byte-lt128-clause-read c =
    ends c.loop-i.rest.now c.in_ok-byte.after.now c.in_ok-byte.byte.now c.from.result
    c.loop-i.invariant c.loop-i-test.true c.in_ok-byte.ensures.cases.0 c.if-byte-lt128.true c.from.ensures

pub loop-i-preserved : goal.loop-i-preserved
loop-i-preserved c =
    goes_on c.loop-i.rest.now c.in_ok-byte.after.now c.in_ok-byte.byte.now c.from.result
    c.loop-i.invariant c.loop-i-test.true c.in_ok-byte.ensures.cases.0 c.if-byte-lt128.false c.from.ensures
