use Rattle.std.proofs.Common.{◌∙◌, ◌+◌, ◌-◌, ap, arith}
use Rattle.bolt_etcd.specs.Store.Crc32c.{crc_bits}
use Rattle.bolt_etcd.proofs.CrcSums.{bits_next, bits_end}
use Rattle.bolt_etcd.proofs.store.crc32c.without_eight_bits.Goals as goal

pub loop-bit-preserved : goal.loop-bit-preserved
loop-bit-preserved c =
    ap (crc_bits (8 - (c.loop-bit.bit + 1))) c.without_bit-left.ensures ∙ bits_next c.loop-bit.bit c.loop-bit.left c.loop-bit-test.true ∙ c.loop-bit.invariant

pub returns : goal.returns
returns c = bits_end c.loop-bit.bit c.loop-bit.left (omega arith) ∙ c.loop-bit.invariant
