-- Which meta bbolt takes when it opens a file: docs/FORMAT.md, "The meta that bbolt takes". Beside "The active meta" it tests less of a record,
-- and looks for the second one elsewhere. A page with a meta should have its own number and flags in its header.
use Rattle.std.specs.Prelude.{◌==◌, ◌&&◌, ◌||◌, ℕ, ◌+◌, Bool, List, Option, None, Some, drop, if◌then◌else◌, length, nat_le, nat_lt, take}
use Rattle.bolt_format.specs.{Bytes.number_at, Bytes.fnv_of, Headers.flags_field, Headers.flags_of, Headers.id_field, Metas.magic, Metas.size_at}
use Rattle.bolt_format.specs.{Metas.version}
use Rattle.bolt_format.specs.{declared.meta.Slot.Slot, declared.meta.Slot.TheVariants.Zero, declared.meta.Slot.TheVariants.One}
use Rattle.bolt_format.specs.declared.header.Kind.TheVariants as kind

-- the checksum is right, or it is 0
abbrev pub has_sum_or_none : List ℕ → ℕ → Bool
has_sum_or_none file at =
    number_at file (at + 72) 8 == 0 || number_at file (at + 72) 8 == fnv_of (take 56 (drop (at + 16) file))

-- The record at this byte is valid to bbolt. Its page size isn't tested, nor that it stands at that size.
unfoldable pub is_bbolt_meta : List ℕ → ℕ → Bool
is_bbolt_meta file at =
    nat_le (at + 80) (length file)
    && (number_at file (at + 16) 4 == magic && (number_at file (at + 20) 4 == version && has_sum_or_none file at))

-- the page size is that of the first record, if it is valid to bbolt, and otherwise 4,096
abbrev pub bbolt_page_size : List ℕ → ℕ
bbolt_page_size file = if is_bbolt_meta file 0 then size_at file 0 else 4096

-- the transaction id of the record at this byte, if it is valid to bbolt
abbrev pub bbolt_txid : List ℕ → ℕ → Option ℕ
bbolt_txid file at = if is_bbolt_meta file at then Some (number_at file (at + 64) 8) else None

-- of two records the one with the greater transaction id is taken; if these are equal, that in slot zero
abbrev pub greater_txid : (first second : Option ℕ) → Option Slot
greater_txid None None = None
greater_txid (Some first) None = Some Zero
greater_txid None (Some second) = Some One
greater_txid (Some first) (Some second) = if nat_lt first second then Some One else Some Zero

-- The slot that bbolt takes, if any. The second record is looked for at the page size, and no file of fewer than 4,096 bytes is opened.
unfoldable pub bbolt_slot : List ℕ → Option Slot
bbolt_slot file =
    if nat_lt (length file) 4096 then None
    else greater_txid (bbolt_txid file 0) (bbolt_txid file (bbolt_page_size file))

-- the header at this byte has this page number, and the flags of a meta page
abbrev pub is_meta_header : List ℕ → (at number : ℕ) → Bool
is_meta_header file at number =
    nat_le (at + 16) (length file)
    && (id_field (drop at file) == number && flags_field (drop at file) == flags_of kind.Meta)

-- the header of this slot's page, at this page size
abbrev pub has_meta_header : List ℕ → Slot → (page_size : ℕ) → Bool
has_meta_header file Zero page_size = is_meta_header file 0 0
has_meta_header file One page_size = is_meta_header file page_size 1
