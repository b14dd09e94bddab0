-- Claiming page after page.
use Rattle.std.proofs.Common.{◌≡◌, ◌≢◌, ◌∙◌, ℕ, ◌+◌, ◌<◌, ◌≤◌, ◌^◌, ◌⊎◌, List, None, length, inl, inr, sym, ap, arith}
use Rattle.bolt_check.proofs.Words.{claims_file, ClaimsFreelist, false≢true, freelist_fault_of, HasRoom, is_used, IsClaimed, IsInFreelist}
use Rattle.bolt_check.proofs.Words.{IsUnclaimed, Meta, NO_FREELIST, page_overflow, PageUse, times_of, use_at}
use Rattle.bolt_check.proofs.{FreelistLemmas.freelist_within, Spans.outside, Spans.still_unlisted}
use Rattle.bolt_format.specs.Bytes.{IsBytes}
use Rattle.bolt_check.specs.{Claims.claims_visited, Counts.counted, declared.claims.Claims.Claims, declared.table.PageUse.TheVariants.Used}

-- the freelist's span, of which nothing was claimed, is claimed
pub claims_freelist : (file : List ℕ) (meta : Meta) (old new : List PageUse) (last : ℕ) → last ≡ meta.freelist + page_overflow file meta meta.freelist
    → meta.freelist ≢ NO_FREELIST → freelist_fault_of file meta ≡ None
    → ((k : ℕ) → meta.freelist ≤ k → k ≤ last → IsUnclaimed old k) → ((k : ℕ) → meta.freelist ≤ k → k ≤ last → IsClaimed new k)
    → ((k : ℕ) → meta.freelist ≤ k → k ≤ last → times_of (use_at new k) ≡ 0)
    → ((k : ℕ) → meta.freelist ≤ k → k ≤ last → use_at new k ≡ Used)
    → ((k : ℕ) → k < meta.freelist → use_at new k ≡ use_at old k) → ((k : ℕ) → last < k → use_at new k ≡ use_at old k) → ClaimsFreelist file meta old new
claims_freelist file meta old new last end written good none used unlisted all below above = record {
  apart = λ n is claimed. false≢true (sym (none n is.from (in_last n is)) ∙ claimed);
  split = λ n claimed. elim (place n) [ inl same ↦ inl (sym (ap is_used same) ∙ claimed) | inr at ↦ inr (in_list n at) ];
  kept = λ n claimed. elim (place n) [ inl same ↦ ap is_used same ∙ claimed | inr at ↦ used n at.0 at.1 ];
  span = λ n is. used n is.from (in_last n is);
  unlisted = still_unlisted old new meta.freelist last below above unlisted;
  noted = λ n u is. elim (place n) [ inl same ↦ inl (sym same ∙ is) | inr at ↦ inr (in_list n at, sym is ∙ all n at.0 at.1) ];
}
  where
    place : (n : ℕ) → (use_at new n ≡ use_at old n) ⊎ ((meta.freelist ≤ n) × (n ≤ last))
    place = outside old new meta.freelist last below above

    in_last : (n : ℕ) → IsInFreelist file meta n → n ≤ last
    in_last n is = let high = is.last in omega (arith, end, high)

    in_list : (n : ℕ) → (meta.freelist ≤ n) × (n ≤ last) → IsInFreelist file meta n
    in_list n at = record { written = written; good = good; from = at.0; last = omega (arith, end, at.1) }

-- the freelist's span lies in a table of the pages that begin in the file
pub span_within : (file : List ℕ) (meta : Meta) (table : List PageUse) (overflow : ℕ) → overflow ≡ page_overflow file meta meta.freelist
    → meta.freelist ≢ NO_FREELIST → freelist_fault_of file meta ≡ None
    → HasRoom file meta table → meta.freelist + overflow < length table
span_within file meta table overflow same written good pages = grind (arith, freelist_within)

-- the count of visits is a number of 64 bits
pub visited_fits : (claims : Claims) → claims_visited claims < 2 ^ 64
unfolding claims_visited
visited_fits claims = claims.fits

pub counted_none : (claims : Claims) → claims_visited claims ≡ counted (claims_visited claims) 0
counted_none claims = let fits = visited_fits claims in omega (arith, fits)

-- the file is bytes
pub claims_bytes : (claims : Claims) → IsBytes (claims_file claims)
unfolding claims_file
claims_bytes claims = claims.bytes
