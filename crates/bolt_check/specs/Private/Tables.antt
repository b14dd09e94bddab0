-- The table of pages.
use Rattle.std.specs.Prelude.{◌≡◌, ◌<◌, ◌≤◌, ◌+◌, ◌*◌, ℕ, Bool, true, false, not, List, count_by, if◌then◌else◌, length, nat_lt, slice_index_or}
use Rattle.bolt_format.specs.declared.meta.Meta.{Meta}
use Rattle.bolt_check.specs.declared.table.PageUse.{PageUse}
use Rattle.bolt_check.specs.declared.table.PageUse.TheVariants.{Unused, Used, Free, FreeTwice, UsedFree, UsedFreeTwice}

-- what page n is used for from the start: the meta pages are used, and no other page is
abbrev pub first_use : ℕ → PageUse
first_use n = if nat_lt n 2 then Used else Unused

-- what the table says of page n; past its end, what it is used for from the start
abbrev pub use_at : List PageUse → ℕ → PageUse
use_at table n = slice_index_or table n (first_use n)

abbrev pub is_used : PageUse → Bool
is_used Unused = false
is_used Free = false
is_used FreeTwice = false
is_used _ = true

-- how often a page is listed; 2 means more than once
abbrev pub times_of : PageUse → ℕ
times_of Free = 1
times_of UsedFree = 1
times_of FreeTwice = 2
times_of UsedFreeTwice = 2
times_of _ = 0

-- page n is claimed, or not
abbrev pub IsClaimed : List PageUse → ℕ → Type 0
IsClaimed table n = is_used (use_at table n) ≡ true

abbrev pub IsUnclaimed : List PageUse → ℕ → Type 0
IsUnclaimed table n = is_used (use_at table n) ≡ false

-- how many are not claimed
abbrev pub unclaimed : List PageUse → ℕ
unclaimed table = count_by (λ page_use. not (is_used page_use)) table

-- the table has a place for each page that lies in the file and below the mark
abbrev pub HasRoom : List ℕ → Meta → List PageUse → Type 0
HasRoom file meta table = (n : ℕ) → (n + 1) * meta.page_size ≤ length file → n < meta.high_water → n < length table
