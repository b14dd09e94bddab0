-- The meta records of a file, and which of them is active: docs/FORMAT.md, "Meta pages" and "The active meta".
use Rattle.std.specs.Prelude.{IsTrue, ◌≡◌, ◌≤◌, ◌<◌, ◌⊎◌, ◌==◌, ℕ, ◌+◌, ◌*◌, ◌^◌, List, length, map, take, drop}
use Rattle.std.specs.List.{list_any, range_with_len}
use Rattle.bolt_format.specs.{Bytes.number_at, Bytes.fnv_of, declared.meta.Meta.Meta, declared.meta.Slot.Slot, declared.meta.Slot.TheVariants.Zero}
use Rattle.bolt_format.specs.{declared.meta.Slot.TheVariants.One}
use Rattle.bolt_format.specs.{declared.meta.MetaFault.MetaFault, declared.meta.TheConstants.METAS_END}
use Rattle.bolt_format.specs.declared.meta.MetaFault.TheVariants.{Cut, Magic, Version, Sum, PageSize}

-- the 16 powers of two from 1,024 to 33,554,432
abbrev pub page_size_count : ℕ
page_size_count = 16

abbrev pub page_sizes : List ℕ
page_sizes = map (λ k. 1024 * 2 ^ k) (range_with_len 0 page_size_count)

abbrev pub IsPageSize : ℕ → Type 0
IsPageSize n = IsTrue (list_any (λ size. size == n) page_sizes)

-- The five tests of the page that begins at byte `at`: its record follows a header of 16 bytes.
abbrev pub IsWhole : List ℕ → ℕ → Type 0
IsWhole file at = at + 80 ≤ length file

abbrev pub magic : ℕ
magic = 0xED0CDAED

abbrev pub HasMagic : List ℕ → ℕ → Type 0
HasMagic file at = number_at file (at + 16) 4 ≡ magic

abbrev pub version : ℕ
version = 2

abbrev pub HasVersion : List ℕ → ℕ → Type 0
HasVersion file at = number_at file (at + 20) 4 ≡ version

-- the checksum is that of the 56 bytes before it
abbrev pub HasSum : List ℕ → ℕ → Type 0
HasSum file at = number_at file (at + 72) 8 ≡ fnv_of (take 56 (drop (at + 16) file))

-- the page size is accepted, and the page is at byte 0 or at that size
abbrev pub size_at : List ℕ → ℕ → ℕ
size_at file at = number_at file (at + 24) 4

abbrev pub IsPlaced : List ℕ → ℕ → Type 0
IsPlaced file at = (at ≡ 0) ⊎ (at ≡ size_at file at)

abbrev pub meta_fields : List ℕ → ℕ → Meta
meta_fields file at = record {
  page_size = size_at file at;
  root = number_at file (at + 32) 8;
  root_sequence = number_at file (at + 40) 8;
  freelist = number_at file (at + 48) 8;
  high_water = number_at file (at + 56) 8;
  txid = number_at file (at + 64) 8;
}

-- the page at this byte has a valid record with these fields
pub record IsMeta (file : List ℕ) (at : ℕ) (meta : Meta) : Type 0 where
  pub whole : IsWhole file at
  pub magic : HasMagic file at
  pub version : HasVersion file at
  pub sum : HasSum file at
  pub size : IsPageSize (size_at file at)
  pub place : IsPlaced file at
  pub fields : meta ≡ meta_fields file at

-- the first of the five tests that fails
abbrev pub HasMetaFault : List ℕ → ℕ → MetaFault → Type 0
HasMetaFault file at Cut = ¬ IsWhole file at
HasMetaFault file at Magic = IsWhole file at × ¬ HasMagic file at
HasMetaFault file at Version = IsWhole file at × HasMagic file at × ¬ HasVersion file at
HasMetaFault file at Sum = IsWhole file at × HasMagic file at × HasVersion file at × ¬ HasSum file at
HasMetaFault file at PageSize = IsWhole file at × HasMagic file at × HasVersion file at × HasSum file at
    × ((¬ IsPageSize (size_at file at)) ⊎ ¬ IsPlaced file at)

-- the least of the accepted page sizes at which a page with a valid record begins
pub record IsLoneMeta (file : List ℕ) (meta : Meta) : Type 0 where
  pub at : ℕ
  pub tried : IsPageSize at
  pub valid : IsMeta file at meta
  pub least : (before : ℕ) (other : Meta) → IsPageSize before → before < at → IsMeta file before other → ⊥

-- If slot zero has a valid record, slot one is at its page size; otherwise it is at the least accepted page size that has a valid record.
abbrev pub IsInOne : List ℕ → Meta → Type 0
IsInOne file meta =
    ((zero : Meta) × IsMeta file 0 zero × IsMeta file zero.page_size meta)
    ⊎ (((zero : Meta) → IsMeta file 0 zero → ⊥) × IsLoneMeta file meta)

abbrev pub IsInSlot : List ℕ → Slot → Meta → Type 0
IsInSlot file Zero meta = IsMeta file 0 meta
IsInSlot file One meta = IsInOne file meta

abbrev pub HasBothMetas : List ℕ → Type 0
HasBothMetas file = (slot : Slot) → (meta : Meta) × IsInSlot file slot meta

-- how many bytes the metas need: to the end of slot one's record, if slot zero is valid, and else to the last place where it may be
abbrev pub IsMetasEnd : List ℕ → ℕ → Type 0
IsMetasEnd file end =
    ((zero : Meta) × IsMeta file 0 zero × (end ≡ zero.page_size + 80))
    ⊎ (((zero : Meta) → IsMeta file 0 zero → ⊥) × (end ≡ METAS_END))

-- Why a slot has no valid record: the fault of its byte, or of byte 0 if the byte of slot one isn't known.
abbrev pub HasSlotFault : List ℕ → Slot → MetaFault → Type 0
HasSlotFault file Zero fault = HasMetaFault file 0 fault
HasSlotFault file One fault =
    ((zero : Meta) × IsMeta file 0 zero × HasMetaFault file zero.page_size fault)
    ⊎ (((zero : Meta) → IsMeta file 0 zero → ⊥) × HasMetaFault file 0 fault)

abbrev pub other_slot : Slot → Slot
other_slot Zero = One
other_slot One = Zero

-- the active meta: it is valid and, if the other slot has a valid one too, has the greater transaction id; if these are equal, it is in
-- slot zero
pub record IsActive (file : List ℕ) (slot : Slot) (meta : Meta) : Type 0 where
  pub valid : IsInSlot file slot meta
  pub newest : (other : Meta) → IsInSlot file (other_slot slot) other → (other.txid < meta.txid) ⊎ ((other.txid ≡ meta.txid) × (slot ≡ Zero))

abbrev pub HasActive : List ℕ → Meta → Type 0
HasActive file meta = (slot : Slot) × IsActive file slot meta

-- why there is none, and why a slot has no valid one
abbrev pub HasNoActive : List ℕ → MetaFault → Type 0
HasNoActive file fault = HasMetaFault file 0 fault × ((slot : Slot) (meta : Meta) → IsInSlot file slot meta → ⊥)

abbrev pub HasNoneInSlot : List ℕ → Slot → MetaFault → Type 0
HasNoneInSlot file slot fault = HasSlotFault file slot fault × ((meta : Meta) → IsInSlot file slot meta → ⊥)

-- no other meta is active
abbrev pub IsOnlyActive : List ℕ → Slot → Meta → Type 0
IsOnlyActive file slot meta = (other : Slot) (another : Meta) → IsActive file other another → (other ≡ slot) × (another ≡ meta)

-- what is said of the prefix of a file in which its metas lie, and of the file
abbrev pub ForMetasPrefix : (List ℕ → List ℕ → Type 0) → Type 0
ForMetasPrefix P = (file : List ℕ) (end : ℕ) → IsMetasEnd (take 80 file) end → P (take end file) file
