-- The lines of a part of a listing, from or below paths that the code holds as slices: docs/LISTING.md, "The part below a path".
use Rattle.std.specs.Prelude.{ℕ, List}
use Rattle.std.specs.{Borrow.Bor, List.take_while}
use Rattle.bolt_tree.specs.{Listing.Member, Listing.rest_from, ListingParts.begins_with, ListingParts.bucket_part, ListingParts.part_below}
use Rattle.bolt_tree.specs.{Paths.path_of}
use Rattle.bolt_text.specs.{ListForms.listing_lines, ListLines.listing_text, declared.forms.ListForm.ListForm}

-- the lines from a path on, that the code holds as slices
abbrev pub rest_text : List (Bor (List ℕ)) → List Member → List ℕ
rest_text from listing = listing_text (rest_from (path_of from) listing)

abbrev pub lines_below : ListForm → (from below : List (Bor (List ℕ))) → List Member → List ℕ
lines_below form from below listing = listing_lines form (rest_from (path_of from) (part_below (path_of below) listing))

-- the lines from a path on of what is below `below`; none if there is no bucket
abbrev pub bucket_lines : ListForm → (from below : List (Bor (List ℕ))) → List Member → List ℕ
bucket_lines form from below listing = listing_lines form (rest_from (path_of from) (bucket_part (path_of below) listing))

-- the lines up to the first member whose path doesn't begin with `below`
abbrev pub lines_while_below : ListForm → (below : List (Bor (List ℕ))) → List Member → List ℕ
lines_while_below form below listing = listing_lines form (take_while (λ (m : Member). begins_with (path_of below) m.0) listing)
