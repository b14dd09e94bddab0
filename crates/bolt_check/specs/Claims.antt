-- What the claimed pages show.
use Rattle.std.specs.Prelude.{◌≡◌, ℕ, Bool, true, List, length, ⊤}
use Rattle.bolt_format.specs.declared.meta.Meta.{Meta}
use Rattle.bolt_check.specs.{Nodes.Nodes, Nodes.node_at, Private.Tables.is_used, Private.Tables.unclaimed, Private.Tables.use_at}
use Rattle.bolt_check.specs.{declared.claims.Claims.Claims}

-- the file whose pages are claimed, and the meta that it is read under
unfoldable pub claims_file : Claims → List ℕ
claims_file claims = claims.file.now

unfoldable pub claims_meta : Claims → Meta
claims_meta claims = claims.meta

-- the pages of the claims' file as nodes
abbrev pub claims_nodes : Claims → Nodes
claims_nodes claims = node_at (claims_file claims) (claims_meta claims)

-- whether page n is claimed
unfoldable pub is_claimed : Claims → ℕ → Bool
is_claimed claims n = is_used (use_at claims.table.items n)

abbrev pub HasClaimed : Claims → ℕ → Type 0
HasClaimed claims n = is_claimed claims n ≡ true

-- how many places the table has
unfoldable pub claims_length : Claims → ℕ
claims_length claims = length claims.table.items

-- how many pages were visited
unfoldable pub claims_visited : Claims → ℕ
claims_visited claims = claims.visited

-- how many pages of the table are not claimed
unfoldable pub pages_left : Claims → ℕ
pages_left claims = unclaimed claims.table.items

-- all that claims show, to be unfolded together
unfoldable pub claims_viewers : ⊤
unfolding claims_file claims_length claims_meta claims_visited is_claimed pages_left
claims_viewers = tt
