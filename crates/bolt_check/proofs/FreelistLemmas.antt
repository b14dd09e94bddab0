-- The span of a freelist whose page is good.
use Rattle.std.proofs.Common.{arith, ◌≡◌, ◌≢◌, ◌∙◌, ◌==◌, ℕ, ◌+◌, ◌*◌, ◌<◌, ◌≤◌, List, Some, None, length, refl, sym}
use Rattle.bolt_check.proofs.Words.{cond-false, first_of-none, freelist_fault, freelist_fault_of, Meta, ne_eqb, NO_FREELIST, page_at, page_fault}
use Rattle.bolt_check.proofs.Words.{page_overflow, span_within}
use Rattle.bolt_format.specs.{Headers.count_field, Headers.flags_field, Headers.kind_of, Pages.from_page, Pages.span_bytes, Pages.span_fault}
use Rattle.bolt_format.specs.{Pages.view_of}
use Rattle.bolt_format.specs.declared.header.Kind.TheVariants as kind

module _ (file : List ℕ) (meta : Meta) (written : meta.freelist ≢ NO_FREELIST) (good : freelist_fault_of file meta ≡ None) where
  own_fault : freelist_fault file meta meta.freelist ≡ None
  own_fault = sym (cond-false (meta.freelist == NO_FREELIST) None (freelist_fault file meta meta.freelist) (ne_eqb meta.freelist NO_FREELIST written)) ∙ good

  own_span : span_fault file meta meta.freelist ≡ None
  unfolding freelist_fault
  own_span = (first_of-none (span_fault file meta meta.freelist) _ own_fault).0

  own_kind : kind_of (flags_field (from_page file meta meta.freelist)) ≡ Some kind.Freelist
  unfolding freelist_fault
  own_kind = grind arith

  -- it is a good page,
  pub freelist_page : page_at file meta meta.freelist
      ≡ Some (view_of kind.Freelist (count_field (from_page file meta meta.freelist)) (page_overflow file meta meta.freelist)
      (span_bytes file meta meta.freelist))
  unfolding page_at page_fault
  freelist_page = rw (own_span, own_kind) refl

  -- and its span lies below the mark and in the file
  pub freelist_within : (meta.freelist + page_overflow file meta meta.freelist < meta.high_water)
      × ((meta.freelist + page_overflow file meta meta.freelist + 1) * meta.page_size ≤ length file)
  freelist_within = span_within file meta meta.freelist own_span
