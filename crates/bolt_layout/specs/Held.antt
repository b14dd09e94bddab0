-- What bounds the items that are held at one time: docs/LAYOUT.md, "Held items".
use Rattle.std.specs.Prelude.{ℕ, ◌+◌, ◌*◌, max, List, [], ◌∷◌, length}
use Rattle.bolt_tree.specs.Listing.{Member}

-- the parts of the longest path of a listing
abbrev pub longest : List Member → ℕ
longest [] = 0
longest (member ∷ listing) = max (length member.0) (longest listing)

-- four page sizes for each bucket of a path, however many entries there are
abbrev pub most_held : (page_size : ℕ) → List Member → ℕ
most_held page_size listing = 4 * page_size * (1 + longest listing)
