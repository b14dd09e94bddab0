-- What a checked file shows.
use Rattle.std.specs.Prelude.{ℕ, List, Bool, ⊤}
use Rattle.bolt_format.specs.declared.meta.Meta.{Meta}
use Rattle.bolt_check.specs.{Nodes.Nodes, Nodes.node_at, declared.checked.Checked.Checked}

unfoldable pub bytes_of : Checked → List ℕ
bytes_of checked = checked.bytes.now

unfoldable pub meta_of : Checked → Meta
meta_of checked = checked.meta

unfoldable pub has_accounts : Checked → Bool
has_accounts checked = checked.accounts

-- all that a checked file shows, to be unfolded together
unfoldable pub checked_viewers : ⊤
unfolding bytes_of has_accounts meta_of
checked_viewers = tt

-- the pages of a checked file as nodes
abbrev pub checked_nodes : Checked → Nodes
checked_nodes checked = node_at (bytes_of checked) (meta_of checked)

-- what is said of a file and the meta that it is read under, of a checked file
abbrev pub in_checked {ℓ} : {A : Type ℓ} → (List ℕ → Meta → A) → Checked → A
in_checked f checked = f (bytes_of checked) (meta_of checked)
