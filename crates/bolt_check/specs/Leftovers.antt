-- What the leftovers of a file show.
use Rattle.std.specs.Prelude.{◌≡◌, ◌==◌, ℕ, Bool, true, List, length, not, ⊤}
use Rattle.bolt_format.specs.declared.meta.Meta.{Meta}
use Rattle.bolt_check.specs.{Nodes.Nodes, Nodes.node_at, Private.Tables.is_used, Private.Tables.times_of, Private.Tables.use_at}
use Rattle.bolt_check.specs.{declared.leftovers.Leftovers.Leftovers}

-- the file, and the meta that it is read under
unfoldable pub leftovers_file : Leftovers → List ℕ
leftovers_file leftovers = leftovers.file.now

unfoldable pub leftovers_meta : Leftovers → Meta
leftovers_meta leftovers = leftovers.meta

abbrev pub leftovers_nodes : Leftovers → Nodes
leftovers_nodes leftovers = node_at (leftovers_file leftovers) (leftovers_meta leftovers)

-- how many places the table has
unfoldable pub leftovers_length : Leftovers → ℕ
leftovers_length leftovers = length leftovers.table.items

-- whether page n is claimed
unfoldable pub is_taken : Leftovers → ℕ → Bool
is_taken leftovers n = is_used (use_at leftovers.table.items n)

abbrev pub HasTaken : Leftovers → ℕ → Type 0
HasTaken leftovers n = is_taken leftovers n ≡ true

-- whether page n is noted as listed
unfoldable pub is_listed : Leftovers → ℕ → Bool
is_listed leftovers n = not (times_of (use_at leftovers.table.items n) == 0)

abbrev pub HasListed : Leftovers → ℕ → Type 0
HasListed leftovers n = is_listed leftovers n ≡ true

-- all that leftovers show, to be unfolded together
unfoldable pub leftovers_viewers : ⊤
unfolding leftovers_file leftovers_length leftovers_meta is_listed is_taken
leftovers_viewers = tt
