-- Where bbolt would have written the data of a page: docs/FORMAT.md, "Gaps". A page has a gap if data of an element begins elsewhere.
use Rattle.std.specs.Prelude.{◌==◌, ℕ, zero, suc, Bool, not, List, Option, Some, None}
use Rattle.std.specs.{List.find, List.range_with_len, Option.option_map}
use Rattle.bolt_format.specs.{Elements.branch_element, Elements.branch_end, Elements.branch_key_start, Elements.element_at, Elements.inline_bytes}
use Rattle.bolt_format.specs.{Elements.leaf_element, Elements.leaf_end, Elements.leaf_key_start}
use Rattle.bolt_format.specs.{Headers.count_field, Headers.flags_field, Headers.kind_of, Pages.from_page, Pages.span_bytes}
use Rattle.bolt_format.specs.{declared.gaps.Gap.Gap, declared.gaps.Gap.TheVariants.After, declared.gaps.Gap.TheVariants.Before}
use Rattle.bolt_format.specs.{declared.meta.Meta.Meta, declared.header.Kind.Kind}
use Rattle.bolt_format.specs.{declared.bucket_value.Inline.Inline, declared.tree_page.LeafPage.LeafPage}
use Rattle.bolt_format.specs.declared.header.Kind.TheVariants as kind

-- bbolt begins the data of the first element where the table ends, and that of each other element where the data of the one before ends
abbrev pub written_start : (end : ℕ → ℕ) → (count i : ℕ) → ℕ
written_start end count zero = element_at count
written_start end count (suc i) = end i

-- the data of element i of so many begins elsewhere
abbrev pub is_elsewhere : (start end : ℕ → ℕ) → (count i : ℕ) → Bool
is_elsewhere start end count i = not (start i == written_start end count i)

-- the first such element
abbrev pub first_elsewhere : (start end : ℕ → ℕ) → (count : ℕ) → Option ℕ
first_elsewhere start end count = find (is_elsewhere start end count) (range_with_len 0 count)

-- What is reported of it: the key of the element before it, whose length may be wrong; of the first element its own key.
pub data GapView : Type 0 where
  before : List ℕ → GapView
  after : List ℕ → GapView

abbrev pub gap_at : (key : ℕ → List ℕ) → ℕ → GapView
gap_at key zero = before (key 0)
gap_at key (suc i) = after (key i)

-- the first gap of a branch or a leaf with so many elements, if it has one
unfoldable pub branch_gap : List ℕ → ℕ → Option GapView
branch_gap bytes count = option_map (gap_at (λ i. (branch_element bytes i).key)) (first_elsewhere (branch_key_start bytes) (branch_end bytes) count)

unfoldable pub leaf_gap : List ℕ → ℕ → Option GapView
leaf_gap bytes count = option_map (gap_at (λ i. (leaf_element bytes i).key)) (first_elsewhere (leaf_key_start bytes) (leaf_end bytes) count)

-- the first gap of a page of a file; a meta page and a freelist have none
abbrev pub gap_of_kind : Option Kind → ℕ → List ℕ → Option GapView
gap_of_kind (Some kind.Branch) count bytes = branch_gap bytes count
gap_of_kind (Some kind.Leaf) count bytes = leaf_gap bytes count
gap_of_kind (Some kind.Meta) count bytes = None
gap_of_kind (Some kind.Freelist) count bytes = None
gap_of_kind None count bytes = None

unfoldable pub page_gap : List ℕ → Meta → ℕ → Option GapView
page_gap file meta id = gap_of_kind (kind_of (flags_field (from_page file meta id))) (count_field (from_page file meta id)) (span_bytes file meta id)

-- the first gap of the page in the value of an inline bucket
unfoldable pub inline_gap : List ℕ → Option GapView
inline_gap value = leaf_gap (inline_bytes value) (count_field (inline_bytes value))

-- ---- of the code

abbrev pub gap_view : Gap → GapView
gap_view (Before key) = before key.now
gap_view (After key) = after key.now

unfoldable pub shown_gap : LeafPage → Option GapView
shown_gap page = leaf_gap page.bytes.now page.count

abbrev pub shown_inline_gap : Inline → Option GapView
shown_inline_gap inline = shown_gap inline.page
