-- The keys of revisions: `main`, `_` and `sub`, and for a deletion `t`. Both numbers have eight bytes, the highest first.
use Rattle.std.specs.Prelude.{◌<◌, ℕ, ◌^◌, Bool, true, false, List, [], ◌∷◌, ◌++◌, drop, length, slice_index, Option, Some, None, nat_lt, ◌==◌, ◌&&◌}
use Rattle.std.specs.Prelude.{if◌then◌else◌, not}
use Rattle.std.specs.{Ordering.bool_cmp, Ordering.nat_cmp, Ordering.ordering_then, declared.cmp.Ordering.Ordering}
use Rattle.byteorder.specs.Endian.{big_bytes, big_number}
use Rattle.bolt_etcd.specs.declared.wire.revision_key.RevisionKey.{RevisionKey}

-- the numbers of a revision key, from its bytes: eight of main, `_`, eight of sub
abbrev pub numbers : List ℕ → Bool → Option RevisionKey
numbers bytes deleted =
    if (slice_index bytes 8 == 0x5F) && nat_lt (big_number 8 bytes) (2 ^ 63) && nat_lt (big_number 8 (drop 9 bytes)) (2 ^ 63)
    then Some (record { main = big_number 8 bytes; sub = big_number 8 (drop 9 bytes); deleted = deleted })
    else None

-- the revision key that bytes are, if they are one: with `t` at its end, it is that of a deletion
unfoldable pub revision_key : List ℕ → Option RevisionKey
revision_key bytes =
    if length bytes == 17 then numbers bytes false
    else if (length bytes == 18) && (slice_index bytes 17 == 0x74) then numbers bytes true
    else None

-- how a key is spelled
unfoldable pub spelling : RevisionKey → List ℕ
spelling k = big_bytes 8 k.main ++ (0x5F ∷ (big_bytes 8 k.sub ++ (if k.deleted then 0x74 ∷ [] else [])))

-- a revision key has a spelling if both numbers are below 2^63
abbrev pub IsSpelled : RevisionKey → Type 0
IsSpelled k = (k.main < 2 ^ 63) × (k.sub < 2 ^ 63)

-- revision keys are ordered by their numbers, and a deletion comes after what has the same
abbrev pub numbers_cmp : RevisionKey → RevisionKey → Ordering
numbers_cmp a b = ordering_then (nat_cmp a.main b.main) (ordering_then (nat_cmp a.sub b.sub) (bool_cmp a.deleted b.deleted))

-- ---- marks

-- If etcd restores a snapshot, it can let its next transaction have a number far ahead. It then writes a value without bytes under the key of
-- the revision before that.
--
-- A value under a revision key is a mark if it has no bytes, and the key isn't that of a deletion. A mark is no revision.
abbrev pub is_mark : RevisionKey → List ℕ → Bool
is_mark k value = not k.deleted && (length value == 0)
