-- Pages that are what is written for their elements, whatever follows the data of these: docs/LAYOUT.md, "Bytes".
use Rattle.std.specs.Prelude.{◌≡◌, ◌++◌, ℕ, true, List, Some, length}
use Rattle.std.specs.List.{Contains}
use Rattle.bolt_format.specs.Elements.{LeafElement, head_root, inline_bytes, inline_elements, inline_number}
use Rattle.bolt_format.specs.{Encoded.header_bytes, Headers.overflow_field, Pages.PageView, Pages.page_at, Pages.span_bytes, declared.meta.Meta.Meta}
use Rattle.bolt_format.specs.declared.header.Kind.TheVariants as kind
use Rattle.bolt_check.specs.{Nodes.node_at, Ways.At_page, Ways.PageSpot, Ways.reached}
use Rattle.bolt_layout.specs.PageBytes.{content_bytes, leaf_bytes}

-- bytes begin with what is written
abbrev pub BeginsAsWritten : List ℕ → List ℕ → Type 0
BeginsAsWritten bytes written = (rest : List ℕ) × (bytes ≡ written ++ rest)

-- A page of a file begins with what is written for what it shows: its header, the headers of its elements, and their data.
abbrev pub IsPageAsWritten : List ℕ → Meta → ℕ → Type 0
IsPageAsWritten file meta id =
    (view : PageView) → page_at file meta id ≡ Some view → BeginsAsWritten (span_bytes file meta id) (content_bytes view.kind id view)

-- The page in the value of an inline bucket begins with what is written for it. No rule says which number and overflow its header has.
abbrev pub IsInlineAsWritten : List ℕ → Type 0
IsInlineAsWritten value =
    BeginsAsWritten (inline_bytes value)
    (header_bytes (inline_number value) kind.Leaf (length (inline_elements value)) (overflow_field (inline_bytes value)) ++ leaf_bytes (inline_elements value))

-- each page that a way leads to, and that of each inline bucket on one, is as written
pub record IsAsWritten (file : List ℕ) (meta : Meta) : Type 0 where
  pub pages : (way : List ℕ) (s : PageSpot) → reached (node_at file meta) meta.root way ≡ Some (At_page s) → IsPageAsWritten file meta s.number
  pub inline : (way : List ℕ) (s : PageSpot) (view : PageView) (e : LeafElement) → reached (node_at file meta) meta.root way ≡ Some (At_page s)
      → page_at file meta s.number ≡ Some view → Contains view.leaves e → e.is_bucket ≡ true → head_root e.value ≡ 0 → IsInlineAsWritten e.value
