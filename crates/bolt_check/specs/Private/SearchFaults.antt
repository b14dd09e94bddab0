-- Why the search stops.
use Rattle.std.specs.Prelude.{ℕ, Bool, true, false, List}
use Rattle.bolt_check.specs.{Findings.IsFirst, Nodes.Nodes, Private.Pending.pending_reach, Private.Tables.IsClaimed, Ways.Reach}
use Rattle.bolt_check.specs.{declared.check_fault.CheckFault.CheckFault, declared.spot.Spot.Spot as CodeSpot, declared.table.PageUse.PageUse}
use Rattle.bolt_check.specs.declared.check_fault.CheckFault.TheVariants.{Accounts, Memory, Open, Structure}

-- the search stops at the first finding, or because memory ran out
abbrev pub IsSearchFault : Nodes → Reach → (ℕ → Type 0) → CheckFault → Type 0
IsSearchFault nodes reach start (Structure x) = IsFirst nodes reach start x
IsSearchFault nodes reach start Memory = Unit {0}
IsSearchFault nodes reach start (Open fault) = ⊥
IsSearchFault nodes reach start (Accounts findings) = ⊥

-- The search stops on the ways from this spot or from one still pending, if the table has what was claimed before.
abbrev pub IsPendingFault : Nodes → CodeSpot → List CodeSpot → List PageUse → CheckFault → Type 0
IsPendingFault nodes spot left table fault = IsSearchFault nodes (pending_reach nodes spot left) (IsClaimed table) fault

-- whether memory ran out
abbrev pub is_memory : CheckFault → Bool
is_memory Memory = true
is_memory _ = false
