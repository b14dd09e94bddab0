-- What is left of the members of what is found.
use Rattle.std.specs.Prelude.{ℕ, List, [], ◌∷◌, ◌++◌, Option, drop, if◌then◌else◌, length, map, take}
use Rattle.std.specs.Option.{option_map}
use Rattle.bolt_check.specs.Keys.{Key}
use Rattle.bolt_format.specs.{Elements.LeafElement, ElementsLeft.leaves_left, TreePages.leaves_on}
use Rattle.bolt_tree.specs.{Entries.Bucket, Listing.Member, Paths.Path, Paths.path_of, ShownEntries.item_view, Tree.end, Tree.listing_below}
use Rattle.bolt_tree.specs.{Walks.GivesNext}
use Rattle.bolt_tree.specs.declared.entry.Item as shown
use Rattle.bolt_recover.specs.{Joined.found_tree, Joined.inside_of, Joined.lost_and_found, Joined.tree_of_elements, declared.found_page.FoundPage.FoundPage}
use Rattle.bolt_recover.specs.{declared.found_members.FoundMembers.FoundMembers}

-- found pages of the code with their elements
abbrev pub found_pages_of : List FoundPage → List (ℕ × List LeafElement)
found_pages_of found = map (λ (f : FoundPage). (f.number, leaves_on f.page)) found

-- the members below the bucket
abbrev pub below_bucket : List FoundPage → List Member
below_bucket found = listing_below (lost_and_found ∷ []) (found_tree (found_pages_of found))

-- the bucket and all members below it, if a page is found
abbrev pub found_listing : List FoundPage → List Member
found_listing [] = []
found_listing (page ∷ found) = (lost_and_found ∷ [], Bucket 0) ∷ below_bucket (page ∷ found)

-- the members of these elements of an inline bucket, of these ones of its page, and then of these pages
abbrev pub found_members_left : (name key : Key) → (inner elements : List LeafElement) → List FoundPage → List Member
found_members_left name key inner elements found =
    listing_below (lost_and_found ∷ name ∷ key ∷ []) (tree_of_elements (λ e. end) inner)
    ++ (listing_below (lost_and_found ∷ name ∷ []) (tree_of_elements inside_of elements) ++ below_bucket found)

-- the members that are left
abbrev pub all_left : FoundMembers → List Member
all_left m =
    (if m.has_bucket then (lost_and_found ∷ [], Bucket 0) ∷ [] else [])
    ++ found_members_left m.name.now m.key.now (leaves_left m.inner) (leaves_left m.elements) (drop m.next m.found.now)

-- the members that are left of any listing
abbrev pub found_left : FoundMembers → List Member → List Member
found_left m listing = all_left m

-- how many are left
abbrev pub found_work : FoundMembers → ℕ
found_work m = length (all_left m)

-- the path of the last member that was returned
abbrev pub found_path : FoundMembers → Path
found_path m = path_of (take m.path.length m.path.parts)

-- the first member that was left is returned, and the others are left; or none was left, and none is
abbrev pub GivesBelow : FoundMembers → FoundMembers → Option shown.Item → Type 0
GivesBelow old new given = GivesNext (all_left old) (all_left new) (found_path new) (option_map item_view given)
