use Rattle.std.proofs.Common.{arith}
use Rattle.bolt_etcd.specs.Store.CrcStates.{crc_state}
use Rattle.bolt_etcd.proofs.CrcSums.{taken_in}
use Rattle.bolt_etcd.proofs.store.crc32c.Crc32c.update.Goals as goal

pub loop-byte-preserved : goal.loop-byte-preserved
unfolding crc_state
loop-byte-preserved c =
    taken_in c.loop-byte.self.table c.loop-byte.self.right c.loop-byte.self.state c.args.bytes.now c.loop-byte.byte-index
    (λ k. let fits = c.type_inv.bytes k in omega (arith, fits)) c.loop-byte-test.true c.from.result c.from.ensures _ c.loop-byte.invariant
