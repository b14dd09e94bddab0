-- The table of pages as a table of roles.
use Rattle.std.specs.Prelude.{◌≡◌, ◌==◌, ◌⊎◌, ◌↔◌, ℕ, if◌then◌else◌, List, None, nat_lt}
use Rattle.bolt_format.specs.{Freelists.freelist_fault_of, declared.meta.Meta.Meta}
use Rattle.bolt_check.specs.{Accounts.IsInFreelist, Accounts.IsInUse, Nodes.node_at, OnWays.reach_of, Private.Tables.IsClaimed, Private.Uses.HasUse}
use Rattle.bolt_check.specs.{Private.Uses.IsMetaUse, Private.Uses.IsNoted}
use Rattle.bolt_check.specs.{Sound.IsUsed, declared.role_table.Role.Role, declared.table.PageUse.PageUse}
use Rattle.bolt_check.specs.declared.table.PageUse.TheVariants.{Unused, Branch, Leaf, Used, Free, FreeTwice, UsedFree, UsedFreeTwice}
use Rattle.bolt_check.specs.declared.role_table.Role.TheVariants as role

-- page n is used for this as a meta page, or by a way
abbrev pub IsUsedFor : List ℕ → Meta → ℕ → PageUse → Type 0
IsUsedFor file meta n u = HasUse (node_at file meta) (reach_of file meta) IsMetaUse n u

-- the table has no other use of a page
abbrev pub NotesUses : List ℕ → Meta → List PageUse → Type 0
NotesUses file meta table = (n : ℕ) (u : PageUse) → IsNoted table n u → IsUsedFor file meta n u

-- exactly the pages that are used are claimed
abbrev pub ClaimsUsed : List ℕ → Meta → List PageUse → Type 0
ClaimsUsed file meta table = (n : ℕ) → IsClaimed table n ↔ IsUsed file meta n

-- the table has what each page is used for, the freelist's span too
pub record AreUses (file : List ℕ) (meta : Meta) (table : List PageUse) : Type 0 where
  pub noted : (n : ℕ) (u : PageUse) → IsNoted table n u
      → IsUsedFor file meta n u ⊎ (IsInFreelist file meta n × (u ≡ Used))
  pub good : freelist_fault_of file meta ≡ None
  pub claimed : (n : ℕ) → IsInUse file meta (IsUsed file meta) n → IsClaimed table n

-- the role of a page with this use that isn't a meta page or the freelist's first
abbrev pub role_from : PageUse → Role
role_from Unused = role.Free
role_from Branch = role.Branch
role_from Leaf = role.Leaf
role_from Used = role.Inside
role_from Free = role.Free
role_from FreeTwice = role.Free
role_from UsedFree = role.Inside
role_from UsedFreeTwice = role.Inside

abbrev pub role_by : Meta → ℕ → PageUse → Role
role_by meta n page_use = if nat_lt n 2 then role.Meta else (if n == meta.freelist then role.Freelist else role_from page_use)
