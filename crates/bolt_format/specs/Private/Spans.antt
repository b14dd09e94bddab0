-- A page's span in the file, and one of the code.
use Rattle.std.specs.Prelude.{◌≡◌, ◌<◌, ◌≤◌, ◌+◌, ◌*◌, IsSome, ℕ, List, Some, length}
use Rattle.bolt_format.specs.{Headers.count_field, Headers.flags_field, Headers.kind_of, Pages.from_page, Pages.page_overflow, Pages.span_bytes}
use Rattle.bolt_format.specs.{declared.meta.Meta.Meta, declared.open_page.Span.Span}

-- the header and the span lie in the file and below the mark, and the header names a kind
pub record IsWithin (file : List ℕ) (meta : Meta) (id : ℕ) : Type 0 where
  pub header : id * meta.page_size + 16 ≤ length file
  pub kind : IsSome (kind_of (flags_field (from_page file meta id)))
  pub below : id + page_overflow file meta id < meta.high_water
  pub end : (id + 1 + page_overflow file meta id) * meta.page_size ≤ length file

pub record IsSpan (file : List ℕ) (meta : Meta) (id : ℕ) (span : Span) : Type 0 where
  pub kind : kind_of (flags_field (from_page file meta id)) ≡ Some span.kind
  pub count : span.count ≡ count_field (from_page file meta id)
  pub overflow : span.overflow ≡ page_overflow file meta id
  pub bytes : span.bytes.now ≡ span_bytes file meta id
