use Rattle.std.proofs.Common.{◌≡◌, drop}
use Rattle.bolt_etcd.specs.{Store.Crc32c.crc_from, Store.CrcStates.crc_state}
use Rattle.bolt_etcd.proofs.store.crc32c.Crc32c.update.Given as goal

-- the state so far and the bytes that are left give the state after all
abbrev pub invariant-loop-byte : goal.invariant-loop-byte
invariant-loop-byte l = crc_from (crc_state l.self) (drop l.byte-index l.bytes) ≡ crc_from (crc_state l.fn.self) l.bytes
