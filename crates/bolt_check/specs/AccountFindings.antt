-- What is reported if the freelist doesn't have exactly the free pages: docs/SOUND.md, "Accounts".
use Rattle.std.specs.Prelude.{◌≡◌, ◌≢◌, ◌≤◌, ◌<◌, ◌⊎◌, ◌↔◌, ℕ, suc, List, [], ◌∷◌, AllPairs, Contains, Some}
use Rattle.bolt_format.specs.{Freelists.free_ids_of, Freelists.freelist_fault_of, declared.meta.Meta.Meta, declared.meta.TheConstants.NO_FREELIST}
use Rattle.bolt_check.specs.{Accounts.IsFree, Accounts.IsInFreelist, Accounts.IsInUse, Accounts.times_in, Findings.finding}
use Rattle.bolt_check.specs.{declared.finding.Finding.Finding}
use Rattle.bolt_check.specs.declared.finding.TheConstants.Finding.{FREED_TWICE, FREE_RANGE, REACHED_FREED, TWICE, UNREACHABLE}

-- what is wrong with the freelist's own page: its first fault, or the lowest page of its span that is used
pub data IsFreelistFinding (file : List ℕ) (meta : Meta) (used : ℕ → Type 0) : Finding → Type 0 where
  bad : {fault : ℕ} → freelist_fault_of file meta ≡ Some fault → IsFreelistFinding file meta used (finding fault meta.freelist)
  shared : {n : ℕ} → IsInFreelist file meta n → used n → ((k : ℕ) → IsInFreelist file meta k → used k → n ≤ k)
      → IsFreelistFinding file meta used (finding TWICE n)

abbrev pub IsInRange : ℕ → ℕ → Type 0
IsInRange high_water n = (2 ≤ n) × (n < high_water)

-- page n is free but not listed
pub record IsUnlistedPage (high_water : ℕ) (in_use : ℕ → Type 0) (times : ℕ → ℕ) (n : ℕ) : Type 0 where
  pub free : IsFree high_water in_use n
  pub unlisted : times n ≡ 0

-- what is wrong with the pages that are listed, and with those that are not
pub data IsAccountFinding (high_water : ℕ) (in_use : ℕ → Type 0) (times : ℕ → ℕ) : Finding → Type 0 where
  freed_twice : {n : ℕ} → IsInRange high_water n → 2 ≤ times n → IsAccountFinding high_water in_use times (finding FREED_TWICE n)
  reached_freed : {n : ℕ} → IsInRange high_water n → 1 ≤ times n → in_use n → IsAccountFinding high_water in_use times (finding REACHED_FREED n)
  -- a longest interval of lost pages
  unreachable : {page last : ℕ} → page ≤ last → ((n : ℕ) → page ≤ n → n ≤ last → IsUnlistedPage high_water in_use times n)
      → (IsUnlistedPage high_water in_use times (suc last) → ⊥) → ((before : ℕ) → suc before ≡ page → IsUnlistedPage high_water in_use times before → ⊥)
      → IsAccountFinding high_water in_use times (record { number = UNREACHABLE; page = page; last = last })
  out_of_range : {n : ℕ} → (n < 2) ⊎ (high_water ≤ n) → 1 ≤ times n → IsAccountFinding high_water in_use times (finding FREE_RANGE n)

-- findings are ordered by page, and then by the rule's code
abbrev pub IsBefore : Finding → Finding → Type 0
IsBefore a b = (a.page < b.page) ⊎ ((a.page ≡ b.page) × (a.number < b.number))

-- What is reported: of the freelist's own page one finding alone; otherwise all findings on the accounts, in order.
pub record AreAccountFindings (file : List ℕ) (meta : Meta) (used : ℕ → Type 0) (findings : List Finding) : Type 0 where
  pub written : meta.freelist ≢ NO_FREELIST
  pub of_page : (x : Finding) → IsFreelistFinding file meta used x → findings ≡ x ∷ []
  pub rises : ((x : Finding) → IsFreelistFinding file meta used x → ⊥) → AllPairs IsBefore findings
  pub exact : ((x : Finding) → IsFreelistFinding file meta used x → ⊥) → (ids : List ℕ) → free_ids_of file meta ≡ Some ids
      → (x : Finding) → Contains findings x ↔ IsAccountFinding meta.high_water (IsInUse file meta used) (times_in ids) x
