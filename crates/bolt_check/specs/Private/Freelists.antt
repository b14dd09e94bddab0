-- What the table and the ids past it list together, and what is reported of it up to a page.
use Rattle.std.specs.Prelude.{◌≡◌, ◌≤◌, ◌<◌, ◌==◌, ◌⊎◌, ◌&&◌, ℕ, suc, ◌+◌, ◌-◌, max, min, slice_index, Bool, List, [], ◌∷◌, ◌↔◌, All, AllPairs}
use Rattle.std.specs.Prelude.{Contains, length, nat_lt, if◌then◌else◌}
use Rattle.std.specs.List.Sorted.{IsNonDecreasing}
use Rattle.bolt_format.specs.declared.meta.Meta.{Meta}
use Rattle.bolt_check.specs.{Accounts.IsInFreelist, Accounts.IsInUse, Accounts.times_in, Findings.finding}
use Rattle.bolt_check.specs.{Private.Tables.IsClaimed, Private.Tables.is_used, Private.Tables.use_at, Private.Tables.times_of, Private.Uses.IsNoted}
use Rattle.bolt_check.specs.{AccountFindings.IsAccountFinding, AccountFindings.IsBefore, AccountFindings.IsUnlistedPage}
use Rattle.bolt_check.specs.{declared.finding.Finding.Finding}
use Rattle.bolt_check.specs.declared.finding.TheConstants.Finding.{FREED_TWICE, FREE_RANGE, REACHED_FREED, UNREACHABLE}
use Rattle.bolt_check.specs.{declared.listed_pages.Freelist.Freelist, declared.table.PageUse.PageUse}
use Rattle.bolt_check.specs.declared.table.PageUse.TheVariants.{Used, Free, FreeTwice, UsedFree, UsedFreeTwice}

-- nothing is listed yet
abbrev pub IsUnlisted : List PageUse → Type 0
IsUnlisted table = (n : ℕ) → times_of (use_at table n) ≡ 0

-- what is used stays used, and what isn't stays so
abbrev pub KeepsUsed : List PageUse → List PageUse → Type 0
KeepsUsed old new = (n : ℕ) → is_used (use_at new n) ≡ is_used (use_at old n)

-- one id is listed once more
abbrev pub ListsId : ℕ → List PageUse → List PageUse → Type 0
ListsId id old new = (n : ℕ) → n < length old → times_of (use_at new n) ≡ min 2 (times_of (use_at old n) + (if id == n then 1 else 0))

-- each page is noted as listed as often as it is among the ids, at most twice
abbrev pub ListsIds : List ℕ → List PageUse → List PageUse → Type 0
ListsIds ids old new = (n : ℕ) → n < length old → times_of (use_at new n) ≡ min 2 (times_in ids n)

-- how often a page is listed: by the table, and past it by the ids
unfoldable pub listed_times : Freelist → ℕ → ℕ
listed_times freelist n = times_of (use_at freelist.table.now n) + times_in freelist.past.now n

abbrev pub is_in_use : Freelist → ℕ → Type 0
is_in_use freelist n = IsClaimed freelist.table.now n

-- the ids past the table are sorted, the table has the meta pages, which are claimed, and it doesn't go past the mark
pub record IsSettled (freelist : Freelist) : Type 0 where
  pub sorted : IsNonDecreasing freelist.past.now
  pub past : All (λ id. length freelist.table.now ≤ id) freelist.past.now
  pub metas : (n : ℕ) → n < 2 → IsClaimed freelist.table.now n
  pub wide : 2 ≤ length freelist.table.now
  pub below : length freelist.table.now ≤ freelist.high_water

-- the interval of lost pages from one page up to but not including another
abbrev pub interval_findings : ℕ → ℕ → List Finding
interval_findings from page = if nat_lt from page then record { number = UNREACHABLE; page = from; last = page - 1 } ∷ [] else []

-- whether the next of sorted ids is the same
abbrev pub is_repeated : List ℕ → ℕ → Bool
is_repeated ids i = nat_lt (i + 1) (length ids) && (slice_index ids (i + 1) == slice_index ids i)

abbrev pub repeat_findings : List ℕ → ℕ → List Finding
repeat_findings ids i = if is_repeated ids i then finding FREED_TWICE (slice_index ids i) ∷ [] else []

-- what is reported of a page in range
abbrev pub use_findings : ℕ → PageUse → List Finding
use_findings page FreeTwice = finding FREED_TWICE page ∷ []
use_findings page UsedFree = finding REACHED_FREED page ∷ []
use_findings page UsedFreeTwice = finding FREED_TWICE page ∷ finding REACHED_FREED page ∷ []
use_findings page _ = []

-- what is reported of a meta page
abbrev pub meta_findings : ℕ → PageUse → List Finding
meta_findings page Free = finding FREE_RANGE page ∷ []
meta_findings page FreeTwice = finding FREE_RANGE page ∷ []
meta_findings page UsedFree = finding FREE_RANGE page ∷ []
meta_findings page UsedFreeTwice = finding FREE_RANGE page ∷ []
meta_findings page _ = []

abbrev pub page_findings : ℕ → PageUse → List Finding
page_findings page page_use = if nat_lt page 2 then meta_findings page page_use else use_findings page page_use

module _ (high_water : ℕ) (in_use : ℕ → Type 0) (times : ℕ → ℕ) where
  -- the findings are all those on pages below `next`, in order
  pub record AreFindingsBelow (next : ℕ) (findings : List Finding) : Type 0 where
    pub sound : All (IsAccountFinding high_water in_use times) findings
    pub below : All (λ x. x.page < next) findings
    pub complete : (x : Finding) → IsAccountFinding high_water in_use times x → x.page < next → Contains findings x
    pub rises : AllPairs IsBefore findings
    -- if there is none, no page is lost
    pub silent : findings ≡ [] → (n : ℕ) → n < next → IsUnlistedPage high_water in_use times n → ⊥

  -- An interval of lost pages may begin at this page, and goes on to the end.
  pub record IsUnlistedInterval (from end : ℕ) : Type 0 where
    pub begins : (before : ℕ) → suc before ≡ from → IsUnlistedPage high_water in_use times before → ⊥
    pub lost : (n : ℕ) → from ≤ n → n < end → IsUnlistedPage high_water in_use times n

  -- the findings are all those of the accounts, in order
  pub record AreAllFindings (findings : List Finding) : Type 0 where
    pub exact : (x : Finding) → Contains findings x ↔ IsAccountFinding high_water in_use times x
    pub rises : AllPairs IsBefore findings
    pub silent : findings ≡ [] → (n : ℕ) → IsUnlistedPage high_water in_use times n → ⊥

-- what is reported below a page, if all from that page up to the end are lost
pub record HasFindingsTo (freelist : Freelist) (from end : ℕ) (findings : List Finding) : Type 0 where
  pub reported : AreFindingsBelow freelist.high_water (is_in_use freelist) (listed_times freelist) from findings
  pub interval : IsUnlistedInterval freelist.high_water (is_in_use freelist) (listed_times freelist) from end

module _ (freelist : Freelist) where
  -- what is reported of the ids past the table and below the mark, up to place i
  pub record IsPastTo (from i : ℕ) (findings : List Finding) : Type 0 where
    pub reported : AreFindingsBelow freelist.high_water (is_in_use freelist) (listed_times freelist) from findings
    pub begins : (before : ℕ) → suc before ≡ from → IsUnlistedPage freelist.high_water (is_in_use freelist) (listed_times freelist) before → ⊥
    pub done : (k : ℕ) → k < i → slice_index freelist.past.now k < freelist.high_water → slice_index freelist.past.now k < from
    pub left : (n : ℕ) → from ≤ n → n < freelist.high_water
        → ((k : ℕ) → i ≤ k → k < length freelist.past.now → slice_index freelist.past.now k ≡ n → ⊥)
        → IsUnlistedPage freelist.high_water (is_in_use freelist) (listed_times freelist) n

  -- what is reported of the ids from the mark on, up to place i
  pub record IsBeyondTo (last i : ℕ) (findings : List Finding) : Type 0 where
    pub reported : AreFindingsBelow freelist.high_water (is_in_use freelist) (listed_times freelist) (max freelist.high_water (suc last)) findings
    pub done : (k : ℕ) → k < i → slice_index freelist.past.now k < max freelist.high_water (suc last)

-- the table, after the freelist's span was claimed in one where none of its pages was
pub record ClaimsFreelist (file : List ℕ) (meta : Meta) (old new : List PageUse) : Type 0 where
  pub apart : (n : ℕ) → IsInFreelist file meta n → IsClaimed old n → ⊥
  pub split : (n : ℕ) → IsClaimed new n → IsClaimed old n ⊎ IsInFreelist file meta n
  pub kept : (n : ℕ) → IsClaimed old n → IsClaimed new n
  pub span : (n : ℕ) → IsInFreelist file meta n → IsClaimed new n
  pub unlisted : IsUnlisted old → IsUnlisted new
  pub noted : (n : ℕ) (page_use : PageUse) → use_at new n ≡ page_use → (use_at old n ≡ page_use) ⊎ (IsInFreelist file meta n × (page_use ≡ Used))

-- the table, after it was given the freelist's span: what it has of pages in use, whether these are listed or not
pub record ClaimsUses (file : List ℕ) (meta : Meta) (old new : List PageUse) : Type 0 where
  pub noted : (n : ℕ) (page_use : PageUse) → IsNoted new n page_use → IsNoted old n page_use ⊎ (IsInFreelist file meta n × (page_use ≡ Used))
  pub claimed : (n : ℕ) → IsInUse file meta (IsClaimed old) n → IsClaimed new n
