use Rattle.std.proofs.Common.{◌≡◌, ◌<◌, ℕ, length, slice_index}
use Rattle.bolt_etcd.specs.Store.Crc32c.{crc_bits}
use Rattle.bolt_etcd.proofs.store.crc32c.table.Given as goal

-- those so far are right
abbrev pub invariant-loop-index : goal.invariant-loop-index
invariant-loop-index l = record {
  whole : length l.table ≡ 256;
  right : (i : ℕ) → i < l.index → slice_index l.table i ≡ crc_bits 8 i;
}
