-- The bytes of the pages of a compact copy: docs/LAYOUT.md, "Bytes". Each part directly follows the preceding one.
use Rattle.std.specs.Prelude.{ℕ, ◌+◌, ◌-◌, ◌*◌, List, [], ◌∷◌, ◌++◌, length, replicate}
use Rattle.bolt_format.specs.{Elements.BranchElement, Elements.LeafElement, Pages.PageView, Encoded.branch_header, Encoded.head_bytes}
use Rattle.bolt_format.specs.{Encoded.header_bytes, Encoded.leaf_header, Encoded.meta_bytes}
use Rattle.bolt_format.specs.{declared.header.Kind.Kind, declared.meta.Meta.Meta}
use Rattle.bolt_format.specs.declared.header.Kind.TheVariants as kind

-- bytes, and zeros up to n of them
abbrev pub filled : ℕ → List ℕ → List ℕ
filled n bytes = bytes ++ replicate (n - length bytes) 0

-- The headers of elements, if the preceding ones have this much data. All data is packed after the last header, so from an element's own
-- header to its key there are that header, those after it, and the preceding data.
abbrev pub key_pos : {E : Type 0} → List E → (before : ℕ) → ℕ
key_pos elements before = 16 * length elements + before

abbrev pub branch_headers : (before : ℕ) → List BranchElement → List ℕ
branch_headers before [] = []
branch_headers before (e ∷ elements) =
    branch_header (key_pos (e ∷ elements) before) (length e.key) e.child ++ branch_headers (before + length e.key) elements

abbrev pub leaf_headers : (before : ℕ) → List LeafElement → List ℕ
leaf_headers before [] = []
leaf_headers before (e ∷ elements) =
    leaf_header e.is_bucket (key_pos (e ∷ elements) before) (length e.key) (length e.value) ++ leaf_headers (before + (length e.key + length e.value)) elements

-- the data of a branch's elements, in their order: their keys
abbrev pub branch_data : List BranchElement → List ℕ
branch_data [] = []
branch_data (e ∷ elements) = e.key ++ branch_data elements

abbrev pub leaf_data : List LeafElement → List ℕ
leaf_data [] = []
leaf_data (e ∷ elements) = e.key ++ (e.value ++ leaf_data elements)

unfoldable pub branch_bytes : List BranchElement → List ℕ
branch_bytes elements = branch_headers 0 elements ++ branch_data elements

unfoldable pub leaf_bytes : List LeafElement → List ℕ
leaf_bytes elements = leaf_headers 0 elements ++ leaf_data elements

-- the value of an inline bucket: root page 0, its sequence, and its one leaf page, with number 0 and no bytes after it
unfoldable pub inline_value : (sequence : ℕ) → List LeafElement → List ℕ
inline_value sequence elements = head_bytes 0 sequence ++ (header_bytes 0 kind.Leaf (length elements) 0 ++ leaf_bytes elements)

-- what is on a page before its zeros
abbrev pub content_bytes : Kind → (number : ℕ) → PageView → List ℕ
content_bytes kind.Branch number view = header_bytes number kind.Branch view.count view.overflow ++ branch_bytes view.branches
content_bytes kind.Leaf number view = header_bytes number kind.Leaf view.count view.overflow ++ leaf_bytes view.leaves
content_bytes kind.Meta number view = header_bytes number kind.Meta view.count view.overflow
content_bytes kind.Freelist number view = header_bytes number kind.Freelist view.count view.overflow

-- a page with its span
unfoldable pub page_bytes : (page_size number : ℕ) → PageView → List ℕ
page_bytes page_size number view = filled ((1 + view.overflow) * page_size) (content_bytes view.kind number view)

-- the meta of a copy, whose freelist is page 2
abbrev pub copy_meta : (page_size root sequence high_water txid : ℕ) → Meta
copy_meta page_size root sequence high_water txid =
    record { page_size = page_size; root = root; root_sequence = sequence; freelist = 2; high_water = high_water; txid = txid }

-- the page of a copy's meta, whose number is its txid
unfoldable pub meta_page : (page_size root sequence high_water txid : ℕ) → List ℕ
meta_page page_size root sequence high_water txid = filled page_size (meta_bytes txid (copy_meta page_size root sequence high_water txid))

-- a freelist without ids
unfoldable pub freelist_page : (page_size number : ℕ) → List ℕ
freelist_page page_size number = filled page_size (header_bytes number kind.Freelist 0 0)
