-- What bbolt fails on in a file as a whole, though the file is sound under its active meta: docs/SOUND.md, "For bbolt".
use Rattle.std.specs.Prelude.{◌==◌, ◌&&◌, ◌++◌, ◌-◌, ◌/◌, ◌^◌, ℕ, Bool, true, false, List, [], ◌∷◌, Option, None, Some, length, nat_le, nat_lt, not}
use Rattle.bolt_format.specs.{BboltMetas.bbolt_page_size, BboltMetas.bbolt_slot, BboltMetas.has_meta_header, declared.meta.Meta.Meta}
use Rattle.bolt_format.specs.{declared.meta.Slot.Slot}
use Rattle.bolt_format.specs.declared.meta.Slot.TheVariants.{One, Zero}
use Rattle.bolt_check.specs.declared.bbolt_file.FileFinding.{FileFinding}
use Rattle.bolt_check.specs.declared.bbolt_file.FileFinding.TheVariants.{LargeTxid, NotMetaPage, NotTaken, PastEnd}

abbrev pub is_slot : Slot → Option Slot → Bool
is_slot slot None = false
is_slot Zero (Some Zero) = true
is_slot Zero (Some One) = false
is_slot One (Some Zero) = false
is_slot One (Some One) = true

-- bbolt takes the meta of this slot, at this page size
abbrev pub takes : List ℕ → Slot → (page_size : ℕ) → Bool
takes file slot page_size = is_slot slot (bbolt_slot file) && bbolt_page_size file == page_size

-- the list of one finding if a condition holds, and otherwise the empty list
abbrev pub file_finding_if : Bool → FileFinding → List FileFinding
file_finding_if true x = x ∷ []
file_finding_if false x = []

-- the page of a slot's meta has another header than a meta page there
abbrev pub meta_page_findings : List ℕ → Slot → (page_size : ℕ) → List FileFinding
meta_page_findings file slot page_size = file_finding_if (not (has_meta_header file slot page_size)) (NotMetaPage slot)

-- how many whole pages the file has; bbolt uses all pages below the mark
abbrev pub whole_pages : List ℕ → Meta → ℕ
whole_pages file meta = length file / meta.page_size

-- what is found under the active meta, in this order
abbrev pub file_findings : List ℕ → Slot → Meta → List FileFinding
file_findings file slot meta =
    file_finding_if (not (takes file slot meta.page_size)) (NotTaken slot)
    ++ (file_finding_if (nat_le (2 ^ 63) meta.txid) (LargeTxid slot)
    ++ (meta_page_findings file Zero meta.page_size
    ++ (meta_page_findings file One meta.page_size
    ++ file_finding_if (nat_lt (whole_pages file meta) meta.high_water) (PastEnd (whole_pages file meta) (meta.high_water - 1)))))
