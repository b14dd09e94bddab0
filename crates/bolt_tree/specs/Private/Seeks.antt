-- The way down to the leaf that is near a key.
use Rattle.std.specs.Prelude.{◌≡◌, ◌+◌, ℕ, Bool, true, false, List, [], ◌∷◌, ◌++◌, Some, length, drop, slice_get}
use Rattle.bolt_format.specs.{Elements.LeafElement, declared.meta.Meta.Meta}
use Rattle.bolt_check.specs.{Keys.Key, Keys.key_lt, OnWays.IsOnWay}
use Rattle.bolt_tree.specs.{BucketViews.BucketView, Private.Contents.Content, Private.Contents.Contents, Private.Contents.Of_leaf}
use Rattle.bolt_tree.specs.{Private.Contents.content_at}
use Rattle.bolt_tree.specs.{Entries.Inline_page, Entries.Root_page, Entries.Start, OpeningCounts.IsNear, OpeningCounts.IsNearFrom, Places.least_from}
use Rattle.bolt_tree.specs.{Private.Stacks.Frame, Private.Stacks.address_on, Private.Stacks.passed_of, Private.Stacks.later_of}
use Rattle.bolt_tree.specs.{Private.Tours.tour_elements}

-- every element of a list has a key below this one, or none has
abbrev pub AreBelow : Bool → Key → List LeafElement → Type 0
AreBelow below key elements = (k : ℕ) (e : LeafElement) → slice_get elements k ≡ Some e → key_lt e.key key ≡ below

-- A key stands between what a stack has passed and what comes later.
pub record IsBetween (contents : Contents) (key : Key) (frames : List Frame) : Type 0 where
  pub passed : AreBelow true key (tour_elements (passed_of contents frames))
  pub later : AreBelow false key (tour_elements (later_of contents frames))

-- from a page that shows this, at this address, the way to the near leaf goes on
abbrev pub IsNearTo : List ℕ → Meta → Start → Key → List ℕ → Content → Type 0
IsNearTo file meta (Root_page root) key address content = (number : ℕ) × (depth : ℕ) × IsOnWay file meta number depth × (content_at file meta number ≡ content)
    × ((rest : List ℕ) → IsNearFrom file meta number key rest → IsNearFrom file meta root key (address ++ rest))
IsNearTo file meta (Inline_page elements) key address content = (address ≡ []) × (Of_leaf elements ≡ content)

abbrev pub IsOnWayDown : BucketView → Key → List Frame → Content → Type 0
IsOnWayDown b key frames content = ∥ IsNearTo b.file b.meta b.start key (address_on frames) content ∥₁

-- the address of the page on top
abbrev pub top_address : List Frame → List ℕ
top_address [] = []
top_address (frame ∷ below) = address_on below

abbrev pub IsNearTop : BucketView → Key → List Frame → Type 0
IsNearTop b key frames = ∥ IsNear b.file b.meta b.start key (top_address frames) ∥₁

-- What is ahead is what begins with the least entry whose key is not below this one.
pub record IsSought (elements : List LeafElement) (key : Key) (after : List LeafElement) : Type 0 where
  pub number : least_from key elements + length after ≡ length elements
  pub rest : drop (least_from key elements) elements ≡ after
