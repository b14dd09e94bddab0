-- The tree of a file, as it can be computed from its pages: docs/LISTING.md, "The listing". A bucket has a root page of its own or is inline,
-- and an inline one has no bucket in it. So buckets nest no deeper than there are pages below the mark, and one.
use Rattle.std.specs.Prelude.{ℕ, zero, suc, List, [], ◌∷◌, if◌then◌else◌}
use Rattle.bolt_format.specs.{Elements.LeafElement, Elements.head_sequence, declared.meta.Meta.Meta}
use Rattle.bolt_tree.specs.{Entries.Root_page, Entries.Start, Entries.start_of, Private.Tours.tour_elements, Private.Tours.pages_at, Tree.Tree}
use Rattle.bolt_tree.specs.{Tree.end, Tree.with_bucket, Tree.with_value}

-- the tree of these entries, if this is inside their buckets
abbrev pub tree_with : (Start → Tree) → List LeafElement → Tree
tree_with inside [] = end
tree_with inside (e ∷ entries) =
    if e.is_bucket then with_bucket e.key (head_sequence e.value) (inside (start_of e.value)) (tree_with inside entries)
    else with_value e.key e.value (tree_with inside entries)

-- the tree of a bucket, down to a depth
abbrev pub tree_within : (Start → List LeafElement) → ℕ → Start → Tree
tree_within entries zero bucket = end
tree_within entries (suc n) bucket = tree_with (tree_within entries n) (entries bucket)

-- the elements of a bucket in their order
abbrev pub file_entries : List ℕ → Meta → Start → List LeafElement
file_entries file meta bucket = tour_elements (pages_at file meta bucket)

unfoldable pub file_tree : List ℕ → Meta → Tree
file_tree file meta = tree_within (file_entries file meta) (suc meta.high_water) (Root_page meta.root)
