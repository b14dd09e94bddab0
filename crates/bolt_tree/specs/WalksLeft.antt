-- How many members a walk has left, so that loops over a walk end.
use Rattle.std.specs.Prelude.{ℕ, List, length}
use Rattle.bolt_check.specs.{CheckedFiles.bytes_of, CheckedFiles.meta_of, declared.checked.Checked.Checked}
use Rattle.bolt_tree.specs.{FileTrees.file_tree, Listing.Member, Tree.listing_of, Walks.left_of, Walks.walk_checked, declared.walk.Walk.Walk}

-- the listing of a checked file, computed from its pages
abbrev pub the_listing : Checked → List Member
the_listing checked = listing_of (file_tree (bytes_of checked) (meta_of checked))

unfoldable pub left_number : Walk → ℕ
left_number walk = length (left_of walk (the_listing (walk_checked walk)))
