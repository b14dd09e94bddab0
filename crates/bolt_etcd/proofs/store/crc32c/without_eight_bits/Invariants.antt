use Rattle.std.proofs.Common.{◌≡◌, ◌-◌}
use Rattle.bolt_etcd.specs.Store.Crc32c.{crc_bits}
use Rattle.bolt_etcd.proofs.store.crc32c.without_eight_bits.Given as goal

-- the bits that are still to go out
abbrev pub invariant-loop-bit : goal.invariant-loop-bit
invariant-loop-bit l = crc_bits (8 - l.bit) l.left ≡ crc_bits 8 l.number
