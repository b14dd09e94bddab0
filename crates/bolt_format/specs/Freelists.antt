-- The numbers of free pages that a freelist page holds: docs/FORMAT.md, "Freelist page".
use Rattle.std.specs.Prelude.{◌==◌, ℕ, ◌+◌, ◌*◌, nat_lt, List, length, map, Option, Some, None, if◌then◌else◌}
use Rattle.std.specs.List.{range_with_len}
use Rattle.bolt_format.specs.{Bytes.number_at, Elements.first_of, Headers.count_field, Headers.flags_field, Headers.kind_of, Pages.from_page}
use Rattle.bolt_format.specs.{Pages.span_bytes, Pages.span_fault}
use Rattle.bolt_format.specs.{declared.page_fault.TheConstants.PageFault.ELEMENT_CUT, declared.page_fault.TheConstants.PageFault.PAGE_KIND}
use Rattle.bolt_format.specs.{declared.header.Kind.Kind, declared.meta.Meta.Meta}
use Rattle.bolt_format.specs.declared.meta.TheConstants.{NO_FREELIST}
use Rattle.bolt_format.specs.declared.header.Kind.TheVariants as kind

-- A count of 0xFFFF means that the first 8 bytes are the number of ids, and that the ids follow.
abbrev pub id_count : ℕ → List ℕ → ℕ
id_count count bytes = if count == 0xFFFF then number_at bytes 16 8 else count

abbrev pub ids_start : ℕ → ℕ
ids_start count = if count == 0xFFFF then 24 else 16

-- n numbers of 8 bytes each
abbrev pub ids_from : List ℕ → ℕ → ℕ → List ℕ
ids_from bytes start n = map (λ k. number_at bytes (start + 8 * k) 8) (range_with_len 0 n)

-- the ids lie within the span
unfoldable pub ids_fault : ℕ → List ℕ → Option ℕ
ids_fault count bytes = if nat_lt (length bytes) (ids_start count + 8 * id_count count bytes) then Some ELEMENT_CUT else None

abbrev pub freelist_kind_fault : Option Kind → Option ℕ
freelist_kind_fault (Some kind.Freelist) = None
freelist_kind_fault _ = Some PAGE_KIND

-- the tests of a page as a freelist: of its number, header and span, its kind and its ids
unfoldable pub freelist_fault : List ℕ → Meta → ℕ → Option ℕ
freelist_fault file meta id =
    first_of (span_fault file meta id)
    (first_of (freelist_kind_fault (kind_of (flags_field (from_page file meta id))))
    (ids_fault (count_field (from_page file meta id)) (span_bytes file meta id)))

-- the ids that a freelist page holds, in order
unfoldable pub free_ids_at : List ℕ → Meta → ℕ → List ℕ
free_ids_at file meta id =
    let count = count_field (from_page file meta id) in
    let bytes = span_bytes file meta id in
    ids_from bytes (ids_start count) (id_count count bytes)

-- a meta may say that no freelist was written
abbrev pub freelist_fault_of : List ℕ → Meta → Option ℕ
freelist_fault_of file meta = if meta.freelist == NO_FREELIST then None else freelist_fault file meta meta.freelist

abbrev pub free_ids_of : List ℕ → Meta → Option (List ℕ)
free_ids_of file meta = if meta.freelist == NO_FREELIST then None else Some (free_ids_at file meta meta.freelist)
