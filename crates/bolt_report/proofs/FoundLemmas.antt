-- The buckets among the first elements of a page.
use Rattle.std.proofs.Common.{◌≡◌, ◌∙◌, ◌+◌, ℕ, Bool, true, false, List, Some, ap, arith, slice_get, take}
use Rattle.bolt_report.proofs.Words.{bucket_count, LeafElement}
use Rattle.std.specs.Prelude.{cond}
use Rattle.std.proofs.{lemmas.List.Filters.length-filter_more, lemmas.Option.get_or_from_slice_get, lemmas.Option.slice_get_within}

module _ (elements : List LeafElement) (i : ℕ) (e : LeafElement) (found : slice_get elements i ≡ Some e) where
  counted : (is : Bool) → e.is_bucket ≡ is → bucket_count (take (i + 1) elements) ≡ bucket_count (take i elements) + cond is 1 0
  counted is same =
      length-filter_more (λ (x : LeafElement). x.is_bucket) elements i e (slice_get_within elements i e found)
      ∙ ap (λ (x : LeafElement). bucket_count (take i elements) + cond x.is_bucket 1 0) (get_or_from_slice_get elements i e e found)
      ∙ ap (λ (b : Bool). bucket_count (take i elements) + cond b 1 0) same

  pub counts_one : (count : ℕ) → e.is_bucket ≡ true → count ≡ bucket_count (take i elements) → count + 1 ≡ bucket_count (take (i + 1) elements)
  counts_one count is before = let more = counted true is in omega (arith, more, before)

  pub counts_none : (count : ℕ) → e.is_bucket ≡ false → count ≡ bucket_count (take i elements) → count ≡ bucket_count (take (i + 1) elements)
  counts_none count is before = let more = counted false is in omega (arith, more, before)
