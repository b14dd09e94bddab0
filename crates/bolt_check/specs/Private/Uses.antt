-- What the table says that pages are used for.
use Rattle.std.specs.Prelude.{◌≡◌, ◌<◌, ◌≤◌, ◌+◌, ◌⊎◌, ℕ, Bool, true, false, List, Option, Some, None, Ok}
use Rattle.bolt_check.specs.{Nodes.Node, Nodes.Nodes, Private.Tables.is_used, Private.Tables.use_at, Ways.At_inline, Ways.At_page, Ways.Reach}
use Rattle.bolt_check.specs.{Ways.Spot, declared.table.PageUse.PageUse}
use Rattle.bolt_check.specs.declared.table.PageUse.TheVariants.{Branch, Leaf, Used}

-- the use of the first page of a node
abbrev pub use_of : Bool → PageUse
use_of true = Leaf
use_of false = Branch

-- page n is the first page of this node and used as it, or a later page of its span
abbrev pub IsUseIn : Node → ℕ → ℕ → PageUse → Type 0
IsUseIn node number n page_use = ((n ≡ number) × (page_use ≡ use_of node.is_leaf)) ⊎ ((number < n) × (n ≤ number + node.overflow) × (page_use ≡ Used))

-- what page n is used for by this spot
abbrev pub UseAt : Nodes → Spot → ℕ → PageUse → Type 0
UseAt nodes (At_page s) n page_use = (node : Node) × (nodes s.number ≡ Ok node) × IsUseIn node s.number n page_use
UseAt nodes (At_inline host inner) n page_use = ⊥

abbrev pub UseOf : Nodes → Option Spot → ℕ → PageUse → Type 0
UseOf nodes None n page_use = ⊥
UseOf nodes (Some s) n page_use = UseAt nodes s n page_use

-- the table says that page n is used for this
abbrev pub IsNoted : List PageUse → ℕ → PageUse → Type 0
IsNoted table n page_use = (use_at table n ≡ page_use) × (is_used page_use ≡ true)

-- the meta pages are used from the start
abbrev pub IsMetaUse : ℕ → PageUse → Type 0
IsMetaUse n page_use = (n < 2) × (page_use ≡ Used)

-- page n was used for this from the start, or is by a way
abbrev pub HasUse : Nodes → Reach → (ℕ → PageUse → Type 0) → ℕ → PageUse → Type 0
HasUse nodes reach start n page_use = start n page_use ⊎ ((way : List ℕ) × UseOf nodes (reach way) n page_use)
