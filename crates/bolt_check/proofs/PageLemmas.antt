-- What is reported of one page.
use Rattle.std.proofs.lemmas.Grind.{common_steps}
use Rattle.std.proofs.Common.{◌≡◌, ℕ, suc, ◌<◌, ◌≤◌, ◌⊎◌, true, [], ◌∷◌, refl, arith}
use Rattle.bolt_check.proofs.Words.{cases_lt, false≢true, finding, Finding, Free, FREE_RANGE, FREED_TWICE, freed_twice, FreeTwice, is_used}
use Rattle.bolt_check.proofs.Words.{IsAccountFinding, IsInRange, IsUnlistedPage, lt-ltb, out_of_range, page_findings, PageUse, reached_freed}
use Rattle.bolt_check.proofs.Words.{times_of, Unused, UsedFree, UsedFreeTwice}
use Rattle.bolt_check.proofs.AccountFindingLemmas.{Reports, reports_one}
use Rattle.bolt_check.specs.{Private.Freelists.meta_findings, Private.Freelists.use_findings, declared.finding.TheConstants.Finding.REACHED_FREED}

-- a finding on a page, by its number
pub data OnPage (high_water : ℕ) (in_use : ℕ → Type 0) (times : ℕ → ℕ) (x : Finding) (n : ℕ) : Type 0 where
  twice : x ≡ finding FREED_TWICE n → 2 ≤ times n → IsInRange high_water n → OnPage high_water in_use times x n
  reached : x ≡ finding REACHED_FREED n → 1 ≤ times n → in_use n → IsInRange high_water n → OnPage high_water in_use times x n
  lost : IsUnlistedPage high_water in_use times n → OnPage high_water in_use times x n
  range : x ≡ finding FREE_RANGE n → 1 ≤ times n → ((n < 2) ⊎ (high_water ≤ n)) → OnPage high_water in_use times x n

module _ (high_water : ℕ) (in_use : ℕ → Type 0) (times : ℕ → ℕ) where
  pub on_own_page : (x : Finding) → IsAccountFinding high_water in_use times x → OnPage high_water in_use times x x.page
  on_own_page x h = grind arith

  -- no page is lost that is listed or in use
  pub not_lost_listed : (n : ℕ) → 1 ≤ times n → IsUnlistedPage high_water in_use times n → ⊥
  not_lost_listed n one is = let zero = is.unlisted in omega (arith, zero, one)

  -- a page that is free and listed once, or used and not listed
  pub reports_well : (n : ℕ) → times n ≤ 1 → (in_use n → times n ≡ 0) → (IsUnlistedPage high_water in_use times n → ⊥) → IsInRange high_water n
      → Reports high_water in_use times n (suc n) []
  reports_well n once unlisted there in_range = grind arith

  pub reports_twice : (n : ℕ) → 2 ≤ times n → (in_use n → ⊥) → IsInRange high_water n
      → Reports high_water in_use times n (suc n) (finding FREED_TWICE n ∷ [])
  reports_twice n two unused in_range = grind (arith, reports_one, freed_twice)

  pub reports_reached : (n : ℕ) → times n ≡ 1 → in_use n → IsInRange high_water n
      → Reports high_water in_use times n (suc n) (finding REACHED_FREED n ∷ [])
  reports_reached n one used in_range = grind (arith, reports_one, reached_freed)

  pub reports_both : (n : ℕ) → 2 ≤ times n → in_use n → IsInRange high_water n
      → Reports high_water in_use times n (suc n) (finding FREED_TWICE n ∷ finding REACHED_FREED n ∷ [])
  reports_both n two used in_range = grind (arith, freed_twice, reached_freed)

  pub reports_range : (n : ℕ) → 1 ≤ times n → (n < 2) ⊎ (high_water ≤ n) → (IsInRange high_water n → ⊥)
      → Reports high_water in_use times n (suc n) (finding FREE_RANGE n ∷ [])
  reports_range n one out outside = grind (arith, reports_one, out_of_range)

  pub reports_unlisted : (n : ℕ) → times n ≡ 0 → (IsUnlistedPage high_water in_use times n → ⊥) → Reports high_water in_use times n (suc n) []
  reports_unlisted n zero there = grind arith

  reports_meta : (n : ℕ) (page_use : PageUse) → n < 2 → times n ≡ times_of page_use → in_use n → is_used page_use ≡ true
      → Reports high_water in_use times n (suc n) (meta_findings n page_use)
  reports_meta n page_use low e used is = grind (arith, false≢true, reports_range, reports_unlisted)

  reports_use : (n : ℕ) (page_use : PageUse) → IsInRange high_water n → times n ≡ times_of page_use → (in_use n → is_used page_use ≡ true)
      → (is_used page_use ≡ true → in_use n)
      → (page_use ≡ Unused → ⊥) → Reports high_water in_use times n (suc n) (use_findings n page_use)
  reports_use n Unused in_range e there here ne = absurd (ne refl)
  reports_use n Free in_range e there here ne = reports_well n (omega arith) (λ u. absurd (false≢true (there u))) (not_lost_listed n (omega arith)) in_range
  reports_use n FreeTwice in_range e there here ne = reports_twice n (omega arith) (λ u. false≢true (there u)) in_range
  reports_use n UsedFree in_range e there here ne = reports_reached n e (here refl) in_range
  reports_use n UsedFreeTwice in_range e there here ne = reports_both n (omega arith) (here refl) in_range
  reports_use n u in_range e there here ne = reports_unlisted n e (λ gone. gone.free.unused (here refl))

  pub reports_page : (n : ℕ) (page_use : PageUse) → n < high_water → (n < 2 → in_use n) → times n ≡ times_of page_use
      → (in_use n → is_used page_use ≡ true)
      → (is_used page_use ≡ true → in_use n) → (page_use ≡ Unused → ⊥) → Reports high_water in_use times n (suc n) (page_findings n page_use)
  reports_page n page_use below meta e there here ne = grind (arith, common_steps, cases_lt, lt-ltb, reports_meta, reports_use)
