-- Does the freelist have exactly the free pages? docs/SOUND.md, "Accounts". Throughout, `used` says of a page that it is a meta page or in
-- the span of a page that a way leads to.
use Rattle.std.specs.Prelude.{◌≡◌, ◌≢◌, ◌≤◌, ◌<◌, ◌==◌, ◌⊎◌, ◌+◌, ℕ, List, Some, None, count_by}
use Rattle.bolt_format.specs.{Freelists.free_ids_of, Freelists.freelist_fault_of, Pages.page_overflow, declared.meta.Meta.Meta}
use Rattle.bolt_format.specs.{declared.meta.TheConstants.NO_FREELIST}

-- page n lies in the span of the freelist, which is a good page whose ids fit
pub record IsInFreelist (file : List ℕ) (meta : Meta) (n : ℕ) : Type 0 where
  pub written : meta.freelist ≢ NO_FREELIST
  pub good : freelist_fault_of file meta ≡ None
  pub from : meta.freelist ≤ n
  pub last : n ≤ meta.freelist + page_overflow file meta meta.freelist

-- page n is in use: a meta page, in the span of a page that a way leads to, or in the freelist's span
abbrev pub IsInUse : List ℕ → Meta → (ℕ → Type 0) → ℕ → Type 0
IsInUse file meta used n = used n ⊎ IsInFreelist file meta n

-- n is the lowest page of the freelist's span that is used
abbrev pub IsLowestShared : List ℕ → Meta → (ℕ → Type 0) → ℕ → Type 0
IsLowestShared file meta used n = IsInFreelist file meta n × used n × ((k : ℕ) → IsInFreelist file meta k → used k → n ≤ k)

-- page n is free, if these pages are in use
pub record IsFree (high_water : ℕ) (in_use : ℕ → Type 0) (n : ℕ) : Type 0 where
  pub above_metas : 2 ≤ n
  pub below : n < high_water
  pub unused : in_use n → ⊥

-- how often each page is listed
abbrev pub times_in : List ℕ → ℕ → ℕ
times_in ids n = count_by (λ id. id == n) ids

-- what is listed is free, each page once, and each free page is listed
pub record ListsFree (high_water : ℕ) (in_use : ℕ → Type 0) (times : ℕ → ℕ) : Type 0 where
  pub free : (n : ℕ) → 1 ≤ times n → IsFree high_water in_use n
  pub once : (n : ℕ) → times n ≤ 1
  pub listed : (n : ℕ) → IsFree high_water in_use n → 1 ≤ times n

-- If a freelist was written, its page is good and its ids fit, its span shares no page with those that are used, and its ids are the free pages.
pub record HasAccounts (file : List ℕ) (meta : Meta) (used : ℕ → Type 0) : Type 0 where
  pub good : freelist_fault_of file meta ≡ None
  pub apart : (n : ℕ) → IsInFreelist file meta n → used n → ⊥
  pub lists : (ids : List ℕ) → free_ids_of file meta ≡ Some ids → ListsFree meta.high_water (IsInUse file meta used) (times_in ids)
