-- The ids that a freelist shows.
use Rattle.std.proofs.Common.{◌≡◌, ◌+◌, ◌*◌, ◌<◌, ℕ, length, arith}
use Rattle.std.proofs.lemmas.List.FromFn.{length-map-range_with_len}
use Rattle.bolt_format.specs.{Bytes.number_at, ShownIds.shown_ids, declared.ids.FreeIds.FreeIds}

pub length-shown_ids : (ids : FreeIds) → length (shown_ids ids) ≡ ids.len
unfolding shown_ids
length-shown_ids ids = length-map-range_with_len (λ k. number_at ids.bytes.now (ids.start + 8 * k) 8) 0 ids.len

pub below_len : (ids : FreeIds) (i : ℕ) → i < length (shown_ids ids) → i < ids.len
below_len ids i h = omega (arith, length-shown_ids ids)
