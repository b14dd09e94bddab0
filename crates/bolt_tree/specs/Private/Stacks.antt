-- The stack of a cursor: which pages of the bucket it has passed, and which come later. Stacks have their top first.
-- A position is a page and a number of its elements: those up to the one that the cursor is on or somewhere below. For each page on the
-- stack the tour is what is left of the page, the tour of the page itself, and what is right of it. This one equation is kept at each step.
-- It gives the place of the cursor, the entries on both sides of it, and how many pages are left.
use Rattle.std.specs.Prelude.{◌≡◌, ◌≤◌, ◌<◌, Bool, true, false, ℕ, suc, ◌+◌, ◌-◌, List, [], ◌∷◌, ◌++◌, drop, take, length, Some, slice_get}
use Rattle.bolt_format.specs.Elements.{BranchElement, LeafElement}
use Rattle.bolt_check.specs.OnWays.{IsOnWay}
use Rattle.bolt_tree.specs.{BucketViews.BucketView, Private.BucketPages.IsSoundBucket, Private.BucketPages.contents_in}
use Rattle.bolt_tree.specs.{Private.BucketPages.tour_pages_in}
use Rattle.bolt_tree.specs.Private.Contents.{Content, Contents, Of_branch, Of_leaf, content_length}
use Rattle.bolt_tree.specs.Private.Tours.{TourPage, all_under, tour_elements, tour}

-- A page on the stack, and how many of its elements are taken.
pub record Frame : Type 0 where
  pub content : Content
  pub taken : ℕ

-- the address of the page that is on a stack
abbrev pub address_on : List Frame → List ℕ
address_on [] = []
address_on (frame ∷ below) = address_on below ++ (frame.taken - 1) ∷ []

-- what lies under the elements of a branch, at this height and address
abbrev pub under_at : Contents → ℕ → List ℕ → ℕ → List BranchElement → List TourPage
under_at contents height address i elements = all_under (λ i child. tour contents (62 - height) (address ++ i ∷ []) (contents child)) i elements

-- the pages that come later than what is taken, one frame after another
abbrev pub later_under : Contents → ℕ → List ℕ → Content → ℕ → List TourPage
later_under contents height address (Of_leaf elements) taken = []
later_under contents height address (Of_branch elements) taken = under_at contents height address taken (drop taken elements)

abbrev pub later_of : Contents → List Frame → List TourPage
later_of contents [] = []
later_of contents (frame ∷ below) = later_under contents (length below) (address_on below) frame.content frame.taken ++ later_of contents below

-- the pages passed before the page that is on a stack: those on the stack, and those under what was taken before
abbrev pub passed_under : Contents → ℕ → List ℕ → Content → ℕ → List TourPage
passed_under contents height address (Of_leaf elements) taken = []
passed_under contents height address (Of_branch elements) taken = record { address = address; entries = [] } ∷ under_at contents height address 0
    (take taken elements)

abbrev pub passed_of : Contents → List Frame → List TourPage
passed_of contents [] = []
passed_of contents (frame ∷ below) = passed_of contents below ++ passed_under contents (length below) (address_on below) frame.content (frame.taken - 1)

-- the entries of the page on top that are not taken
abbrev pub here_under : Content → ℕ → List LeafElement
here_under (Of_leaf elements) taken = drop taken elements
here_under (Of_branch elements) taken = []

abbrev pub here_of : List Frame → List LeafElement
here_of [] = []
here_of (frame ∷ below) = here_under frame.content frame.taken

-- the entries that lie ahead
abbrev pub ahead_of : Contents → List Frame → List LeafElement
ahead_of contents frames = here_of frames ++ tour_elements (later_of contents frames)

-- the pages passed before what is taken that are not on the stack
abbrev pub before_under : Contents → ℕ → List ℕ → Content → ℕ → List TourPage
before_under contents height address (Of_leaf elements) taken = []
before_under contents height address (Of_branch elements) taken = under_at contents height address 0 (take taken elements)

abbrev pub pages_before : Contents → List Frame → List TourPage
pages_before contents [] = []
pages_before contents (frame ∷ below) = pages_before contents below ++ before_under contents (length below) (address_on below) frame.content (frame.taken - 1)

-- the entries of the page on top before the last one that is taken
abbrev pub done_under : Content → ℕ → List LeafElement
done_under (Of_leaf elements) taken = take (taken - 1) elements
done_under (Of_branch elements) taken = []

abbrev pub done_of : List Frame → List LeafElement
done_of [] = []
done_of (frame ∷ below) = done_under frame.content frame.taken

-- the entries that lie behind
abbrev pub preceding_of : Contents → List Frame → List LeafElement
preceding_of contents frames = tour_elements (pages_before contents frames) ++ done_of frames

-- a branch is the page of a way, so deep
abbrev pub IsGoodContent : BucketView → ℕ → Content → Type 0
IsGoodContent b depth (Of_leaf elements) = Unit {0}
IsGoodContent b depth (Of_branch elements) = (number : ℕ) × IsOnWay b.file b.meta number depth × (contents_in b number ≡ Of_branch elements)

abbrev pub IsBranchContent : Content → Type 0
IsBranchContent (Of_leaf elements) = ⊥
IsBranchContent (Of_branch elements) = Unit {0}

abbrev pub IsBranchTop : List Frame → Type 0
IsBranchTop [] = Unit {0}
IsBranchTop (frame ∷ below) = IsBranchContent frame.content

-- A page is on a stack if its tour lies between what was passed and what comes later.
pub record IsOver (b : BucketView) (frame : Frame) (below : List Frame) : Type 0 where
  pub shallow : suc (length below) ≤ 64
  pub good : IsGoodContent b (suc (length below)) frame.content
  pub bound : frame.taken ≤ suc (content_length frame.content)
  pub fits : frame.taken ≤ 65536
  pub branch : IsBranchTop below
  pub placed : tour_pages_in b ≡ passed_of (contents_in b) below
      ++ (tour (contents_in b) (63 - length below) (address_on below) frame.content ++ later_of (contents_in b) below)

abbrev pub IsStack : BucketView → List Frame → Type 0
IsStack b [] = Unit {0}
IsStack b (frame ∷ below) = IsOver b frame below × IsStack b below

-- the frames are a stack of a bucket of a sound tree
abbrev pub HasStack : BucketView → List Frame → Type 0
HasStack b frames = ∥ IsSoundBucket b × IsStack b frames ∥₁

-- the number of the entry that a stack is on
abbrev pub index_of : Contents → List Frame → ℕ
index_of contents [] = 0
index_of contents (frame ∷ below) = length (tour_elements (passed_of contents below)) + (frame.taken - 1)

-- a cursor rests on an entry of a leaf, or nowhere
abbrev pub RestsOn : Content → ℕ → Type 0
RestsOn (Of_leaf elements) taken = (1 ≤ taken) × (taken ≤ length elements)
RestsOn (Of_branch elements) taken = ⊥

abbrev pub IsAtRest : List Frame → Type 0
IsAtRest [] = Unit {0}
IsAtRest (frame ∷ below) = RestsOn frame.content frame.taken

-- the leaf on top is on this entry
abbrev pub LeafStandsOn : Content → ℕ → LeafElement → Type 0
LeafStandsOn (Of_leaf elements) taken e = (1 ≤ taken) × (slice_get elements (taken - 1) ≡ Some e)
LeafStandsOn (Of_branch elements) taken e = ⊥

abbrev pub IsOn : List Frame → LeafElement → Type 0
IsOn [] e = ⊥
IsOn (frame ∷ below) e = LeafStandsOn frame.content frame.taken e

-- a leaf is on top
abbrev pub IsLeafContent : Content → Type 0
IsLeafContent (Of_leaf elements) = Unit {0}
IsLeafContent (Of_branch elements) = ⊥

abbrev pub IsLeafTop : List Frame → Type 0
IsLeafTop [] = ⊥
IsLeafTop (frame ∷ below) = IsLeafContent frame.content

-- Element i of a page is the next in a direction, forward or back.
abbrev pub taken_before : Bool → ℕ → ℕ
taken_before false i = i
taken_before true i = i + 2

abbrev pub IsBeside : Bool → Frame → ℕ → Type 0
IsBeside back frame i = (frame.taken ≡ taken_before back i) × (i < content_length frame.content)

-- a page has no next element in a direction
abbrev pub IsLast : Bool → Frame → Type 0
IsLast false frame = content_length frame.content ≤ frame.taken
IsLast true frame = frame.taken ≤ 1
