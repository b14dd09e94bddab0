-- What each page below the mark is for: docs/SOUND.md, "Roles".
use Rattle.std.specs.Prelude.{◌≡◌, ◌<◌, ◌⊎◌, ℕ, Bool, true, false, List, Ok, Some}
use Rattle.bolt_format.specs.declared.meta.Meta.{Meta}
use Rattle.bolt_check.specs.{Accounts.IsFree, Accounts.IsInFreelist, Accounts.IsInUse, Nodes.IsInSpan, Nodes.Node, Nodes.Nodes, Nodes.node_at}
use Rattle.bolt_check.specs.{OnWays.reach_of, Sound.IsUsed}
use Rattle.bolt_check.specs.{Ways.At_page, Ways.PageSpot, Ways.Reach, declared.role_table.Role.Role}
use Rattle.bolt_check.specs.declared.role_table.Role.TheVariants as role

-- a way leads to page n, which is a leaf, or a branch
pub record IsFirstPage (nodes : Nodes) (reach : Reach) (is_leaf : Bool) (n : ℕ) : Type 0 where
  pub way : List ℕ
  pub spot : PageSpot
  pub node : Node
  pub leads : reach way ≡ Some (At_page spot)
  pub number : n ≡ spot.number
  pub page : nodes spot.number ≡ Ok node
  pub kind : node.is_leaf ≡ is_leaf

-- page n is a later page of the span of a page that a way leads to
pub record IsLaterPage (nodes : Nodes) (reach : Reach) (n : ℕ) : Type 0 where
  pub way : List ℕ
  pub spot : PageSpot
  pub node : Node
  pub leads : reach way ≡ Some (At_page spot)
  pub page : nodes spot.number ≡ Ok node
  pub within : IsInSpan node spot.number n
  pub later : spot.number < n

-- what page n is for
abbrev pub HasRole : List ℕ → Meta → ℕ → Role → Type 0
HasRole file meta n role.Meta = n < 2
HasRole file meta n role.Branch = IsFirstPage (node_at file meta) (reach_of file meta) false n
HasRole file meta n role.Leaf = IsFirstPage (node_at file meta) (reach_of file meta) true n
HasRole file meta n role.Freelist = IsInFreelist file meta n × (n ≡ meta.freelist)
HasRole file meta n role.Inside = IsLaterPage (node_at file meta) (reach_of file meta) n ⊎ (IsInFreelist file meta n × (meta.freelist < n))
HasRole file meta n role.Free = IsFree meta.high_water (IsInUse file meta (IsUsed file meta)) n

-- each page below the mark has this role
abbrev pub AreRoles : List ℕ → Meta → (ℕ → Role) → Type 0
AreRoles file meta roles = (n : ℕ) → n < meta.high_water → HasRole file meta n (roles n)
