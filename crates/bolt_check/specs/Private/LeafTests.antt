-- The tests of a leaf by itself.
use Rattle.std.specs.Prelude.{◌≡◌, ◌≢◌, ℕ, [], IsTrue, Ok, Result}
use Rattle.bolt_check.specs.Nodes.{Node}

-- a good page that is a leaf and has an element
abbrev pub IsFilledLeaf : Result Node ℕ → Type 0
IsFilledLeaf seen = (node : Node) × (seen ≡ Ok node) × IsTrue node.is_leaf × (node.entries ≢ [])
