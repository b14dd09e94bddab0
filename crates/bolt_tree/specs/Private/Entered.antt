-- What entering one element of a page does to the frames of a stack.
use Rattle.std.specs.Prelude.{◌≡◌, ℕ, suc, ◌+◌, Bool, true, false, List, ◌∷◌, Option, Some, None, slice_get, length}
use Rattle.bolt_format.specs.Elements.{BranchElement, LeafElement}
use Rattle.bolt_tree.specs.Private.Contents.{Content, Contents, Of_branch, Of_leaf, content_length}
use Rattle.bolt_tree.specs.{Private.Stacks.Frame, Private.Tours.TourPage}

-- how much of a page is done before its first element, or past its last
abbrev pub taken_at : Bool → Content → ℕ
taken_at false content = 0
taken_at true content = suc (content_length content)

-- Element i of a page is entered, above these frames: an entry of a leaf, or the page under a branch, which is now on top, before its first
-- element or past its last.
abbrev pub IsEntered : Contents → Bool → Content → ℕ → List Frame → List Frame → Option LeafElement → Type 0
IsEntered contents at_end (Of_leaf elements) i below new (Some e) =
    (slice_get elements i ≡ Some e) × (new ≡ record { content = Of_leaf elements; taken = i + 1 } ∷ below)
IsEntered contents at_end (Of_leaf elements) i below new None = ⊥
IsEntered contents at_end (Of_branch elements) i below new (Some e) = ⊥
IsEntered contents at_end (Of_branch elements) i below new None = (d : BranchElement) × (slice_get elements i ≡ Some d)
    × (new ≡ record { content = contents d.child; taken = taken_at at_end (contents d.child) } ∷ record { content = Of_branch elements; taken = i + 1 } ∷ below)

-- how many pages come later than where a move comes to: none at the end
abbrev pub opened_to : Option LeafElement → List TourPage → ℕ
opened_to (Some e) right = length right
opened_to None right = 0
