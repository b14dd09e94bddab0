-- The tests of a page in order, and what a good page shows: docs/FORMAT.md, "The tests of a page".
use Rattle.std.specs.Prelude.{◌==◌, ◌<◌, ◌≤◌, ℕ, ◌+◌, ◌*◌, not, nat_lt, nat_le, List, [], length, drop, Option, Some, None, if◌then◌else◌, is_some}
use Rattle.std.specs.Prelude.{slice_range}
use Rattle.bolt_format.specs.Headers.{id_field, flags_field, count_field, overflow_field, kind_of}
use Rattle.bolt_format.specs.Elements.{BranchElement, LeafElement, first_of, branch_elements, branches_fault, leaf_elements, leaves_fault}
use Rattle.bolt_format.specs.Elements.{value_fault}
use Rattle.bolt_format.specs.{declared.meta.Meta.Meta, declared.header.Kind.Kind}
use Rattle.bolt_format.specs.declared.header.Kind.TheVariants as kind
use Rattle.bolt_format.specs.declared.page_fault.TheConstants.PageFault.{RANGE, CUT, ID, PAGE_KIND}

-- the file from the first byte of a page
abbrev pub from_page : List ℕ → Meta → ℕ → List ℕ
from_page file meta id = drop (id * meta.page_size) file

abbrev pub page_overflow : List ℕ → Meta → ℕ → ℕ
page_overflow file meta id = overflow_field (from_page file meta id)

-- the tests of a page's number, header and span
unfoldable pub span_fault : List ℕ → Meta → ℕ → Option ℕ
span_fault file meta id =
    if nat_le meta.high_water id then Some RANGE
    else (if nat_lt (length file) (id * meta.page_size + 16) then Some CUT
    else (if not (id_field (from_page file meta id) == id) then Some ID
    else (if not (is_some (kind_of (flags_field (from_page file meta id)))) then Some PAGE_KIND
    else (if nat_le meta.high_water (id + page_overflow file meta id) then Some RANGE
    else (if nat_lt (length file) ((id + 1 + page_overflow file meta id) * meta.page_size) then Some CUT
    else None)))))

-- the bytes of a page's span: its own page, and as many further ones as its overflow says
abbrev pub span_bytes : List ℕ → Meta → ℕ → List ℕ
span_bytes file meta id = slice_range file (id * meta.page_size) ((id + 1 + page_overflow file meta id) * meta.page_size)

-- the tests of a page's content
abbrev pub content_fault : Kind → ℕ → List ℕ → Option ℕ
content_fault kind.Branch count bytes = branches_fault bytes count
content_fault kind.Leaf count bytes = leaves_fault value_fault bytes count
content_fault kind.Meta count bytes = None
content_fault kind.Freelist count bytes = None

-- What a page shows.
pub record PageView : Type 0 where
  pub kind : Kind
  pub count : ℕ
  pub overflow : ℕ
  pub branches : List BranchElement
  pub leaves : List LeafElement

-- the elements that a page of a kind shows
abbrev pub shown_branches : Kind → ℕ → List ℕ → List BranchElement
shown_branches kind.Branch count bytes = branch_elements bytes count
shown_branches _ count bytes = []

abbrev pub shown_leaves : Kind → ℕ → List ℕ → List LeafElement
shown_leaves kind.Leaf count bytes = leaf_elements bytes count
shown_leaves _ count bytes = []

abbrev pub view_of : Kind → (count overflow : ℕ) → List ℕ → PageView
view_of kind count overflow bytes = record {
  kind = kind;
  count = count;
  overflow = overflow;
  branches = shown_branches kind count bytes;
  leaves = shown_leaves kind count bytes;
}

-- once the kind is known, the first fault, or what is shown
abbrev pub fault_as : Option Kind → ℕ → List ℕ → Option ℕ
fault_as (Some kind) count bytes = content_fault kind count bytes
fault_as None count bytes = None

-- all tests of a page in order: the first fault
unfoldable pub page_fault : List ℕ → Meta → ℕ → Option ℕ
page_fault file meta id =
    first_of (span_fault file meta id)
    (fault_as (kind_of (flags_field (from_page file meta id))) (count_field (from_page file meta id)) (span_bytes file meta id))

abbrev pub shown_as : Option ℕ → Option Kind → (count overflow : ℕ) → List ℕ → Option PageView
shown_as None (Some kind) count overflow bytes = Some (view_of kind count overflow bytes)
shown_as None None count overflow bytes = None
shown_as (Some fault) kind count overflow bytes = None

-- what a page shows, if it is good
unfoldable pub page_at : List ℕ → Meta → ℕ → Option PageView
page_at file meta id =
    shown_as (page_fault file meta id) (kind_of (flags_field (from_page file meta id)))
    (count_field (from_page file meta id)) (page_overflow file meta id) (span_bytes file meta id)

-- the span of a page that shows this lies in the file, and below the mark
pub record IsInFile (file : List ℕ) (meta : Meta) (id : ℕ) (view : PageView) : Type 0 where
  pub below : id + view.overflow < meta.high_water
  pub end : (id + 1 + view.overflow) * meta.page_size ≤ length file
