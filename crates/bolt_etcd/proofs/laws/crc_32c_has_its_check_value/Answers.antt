-- Computed bit by bit.
use Rattle.std.proofs.Common.{refl}
use Rattle.bolt_etcd.specs.Store.Crc32c.{crc_bit, crc_bits, crc_of, crc_polynomial}
use Rattle.bolt_etcd.proofs.laws.crc_32c_has_its_check_value.Goals as goal

pub returns : goal.returns
unfolding crc_bit crc_bits crc_of crc_polynomial
returns c = refl
