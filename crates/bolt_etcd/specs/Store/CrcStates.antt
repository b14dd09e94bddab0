-- The state of a CRC-32C of the code.
use Rattle.std.specs.Prelude.{ℕ}
use Rattle.bolt_etcd.specs.declared.store.crc32c.Crc32c.{Crc32c}

unfoldable pub crc_state : Crc32c → ℕ
crc_state sum = sum.state
