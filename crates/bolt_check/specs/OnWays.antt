-- The pages that ways lead to: docs/SOUND.md, "Ways".
use Rattle.std.specs.Prelude.{◌≡◌, ℕ, List, Some}
use Rattle.bolt_format.specs.declared.meta.Meta.{Meta}
use Rattle.bolt_check.specs.{Nodes.node_at, Ways.At_page, Ways.PageSpot, Ways.Reach, Ways.reached}

-- what the ways from the root page lead to
abbrev pub reach_of : List ℕ → Meta → Reach
reach_of file meta = reached (node_at file meta) meta.root

-- A way leads to this page, at this depth in its bucket.
pub record IsOnWay (file : List ℕ) (meta : Meta) (number depth : ℕ) : Type 0 where
  pub way : List ℕ
  pub spot : PageSpot
  pub led : reach_of file meta way ≡ Some (At_page spot)
  pub is : spot.number ≡ number
  pub deep : spot.depth ≡ depth
