-- A step of a pass over entries.
use Rattle.std.specs.Prelude.{◌≡◌, List, [], ◌∷◌, Option, Some, None}
use Rattle.bolt_format.specs.Elements.{LeafElement}
use Rattle.bolt_tree.specs.Entries.{EntryView, entry_view}

-- the entry that is shown is the first of those ahead, and the others are left; or none was ahead, and none is
abbrev pub ShowsFirst : (old new : List LeafElement) → Option EntryView → Type 0
ShowsFirst old new (Some x) = (e : LeafElement) × (x ≡ entry_view e) × (old ≡ e ∷ new)
ShowsFirst old new None = (old ≡ []) × (new ≡ [])
