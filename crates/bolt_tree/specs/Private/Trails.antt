-- What a stack on a bucket's pages shows: the bucket, and the stack with its top first.
use Rattle.std.specs.Prelude.{◌≡◌, ◌-◌, ◌∷◌, ◌++◌, [], ℕ, Bool, true, false, IfSome, IsTrue, List, MatchOption, Option, Some}
use Rattle.std.specs.Prelude.{length, map, reverse, slice_get}
use Rattle.std.specs.Option.{option_map}
use Rattle.bolt_format.specs.{ElementPlaces.leaf_view, Elements.BranchElement, Elements.IsBucketValue, Elements.LeafElement}
use Rattle.bolt_format.specs.{declared.element.Leaf.Leaf}
use Rattle.bolt_check.specs.{Counts.counted}
use Rattle.bolt_tree.specs.{BucketViews.BucketView, BucketViews.bucket_in, Private.BucketPages.IsSoundBucket, Private.BucketPages.contents_in}
use Rattle.bolt_tree.specs.{Private.BucketPages.tour_pages_in}
use Rattle.bolt_tree.specs.{Pagers.pager_checked, Pagers.pager_opened, Private.ShownPages.opened_content}
use Rattle.bolt_tree.specs.Private.{Contents.Content, Contents.Contents, Entered.opened_to, Entered.taken_at}
use Rattle.bolt_tree.specs.Private.Stacks.{Frame, HasStack, IsAtRest, IsOn, ahead_of, pages_before, preceding_of, later_of}
use Rattle.bolt_tree.specs.{Starts.start_at, Private.Tours.TourPage, declared.bucket_pages.BucketPages.BucketPages}
use Rattle.bolt_tree.specs.{declared.pager.Pager.Pager, declared.stack.Position.Position}

abbrev pub frame_of : Position → Frame
frame_of position = record { content = opened_content position.page; taken = position.taken }

abbrev pub frames_of : List Position → List Frame
frames_of positions = map frame_of (reverse positions)

-- a bucket's pages, and the positions of a stack on them
pub record Trail : Type 0 where
  pub pages : BucketPages
  pub positions : List Position

abbrev pub trail_on : BucketPages → List Position → Trail
trail_on pages positions = record { pages = pages; positions = positions }

abbrev pub pages_bucket : BucketPages → BucketView
pages_bucket pages = bucket_in (pager_checked pages.pager) (start_at pages.at)

abbrev pub trail_bucket : Trail → BucketView
trail_bucket trail = pages_bucket trail.pages

abbrev pub trail_frames : Trail → List Frame
trail_frames trail = frames_of trail.positions

-- the pages are those of a bucket of a sound tree
abbrev pub IsOfSoundTree : BucketPages → Type 0
IsOfSoundTree pages = ∥ IsSoundBucket (pages_bucket pages) ∥₁

abbrev pub HasTrail : Trail → Type 0
HasTrail trail = HasStack (trail_bucket trail) (trail_frames trail)

-- a trail has moved: it is over the same bucket of the same file, and its stack is one of that bucket
pub record IsMoved (old new : Trail) : Type 0 where
  pub file : pager_checked new.pages.pager ≡ pager_checked old.pages.pager
  pub at : new.pages.at ≡ old.pages.at
  pub stack : HasTrail new

-- a pager has opened so many pages more
abbrev pub HasOpened : ℕ → (old new : Pager) → Type 0
HasOpened n old new = pager_opened new ≡ counted (pager_opened old) n

-- the stack of a trail with a page on top
abbrev pub trail_with : Content → ℕ → Trail → List Frame
trail_with content taken trail = record { content = content; taken = taken } ∷ trail_frames trail

abbrev pub HasTrailRoom : Content → ℕ → Trail → Type 0
HasTrailRoom content taken trail = HasStack (trail_bucket trail) (trail_with content taken trail)

-- a page before its first element, or past its last
abbrev pub edge_of : Bool → Content → Frame
edge_of at_end content = record { content = content; taken = taken_at at_end content }

-- element i of a branch leads to a page
abbrev pub LeadsToChild : BucketPages → List BranchElement → ℕ → Content → Type 0
LeadsToChild pages elements i content = (e : BranchElement) × (slice_get elements i ≡ Some e) × (content ≡ contents_in (pages_bucket pages) e.child)

-- what lies in a direction, forward or back: the entries, and the pages
abbrev pub entries_to : Bool → Contents → List Frame → List LeafElement
entries_to false = ahead_of
entries_to true = preceding_of

abbrev pub pages_to : Bool → Contents → List Frame → List TourPage
pages_to false = later_of
pages_to true = pages_before

abbrev pub trail_entries_left : Bool → Trail → List LeafElement
trail_entries_left back trail = entries_to back (contents_in (trail_bucket trail)) (trail_frames trail)

abbrev pub pages_left : Bool → Trail → List TourPage
pages_left back trail = pages_to back (contents_in (trail_bucket trail)) (trail_frames trail)

-- a move in a direction has opened the pages that lie there no more; the first one goes into the bucket, which then lies there as a whole
abbrev pub OpensBetween : Bool → (old new : Trail) → Type 0
OpensBetween back old new = HasOpened (length (pages_left back old) - length (pages_left back new)) old.pages.pager new.pages.pager

abbrev pub OpensInto : Bool → (old new : Trail) → Type 0
OpensInto back old new = HasOpened (length (tour_pages_in (trail_bucket old)) - length (pages_left back new)) old.pages.pager new.pages.pager

abbrev pub ahead : Trail → List LeafElement
ahead = trail_entries_left false

abbrev pub pages_ahead : Trail → List TourPage
pages_ahead = pages_left false

abbrev pub preceding : Trail → List LeafElement
preceding = trail_entries_left true

-- the entries of a direction, with one that is nearer
abbrev pub nearer : Bool → LeafElement → List LeafElement → List LeafElement
nearer false e entries = e ∷ entries
nearer true e entries = entries ++ e ∷ []

-- a move in a direction: what it returns, what lay there and lies there now, and its stack; without an entry, that stack is `end`
abbrev pub Finds : Bool → Option Leaf → (before after : List LeafElement) (frames end : List Frame) → Type 0
Finds back found before after frames end = MatchOption found ((before ≡ []) × (frames ≡ end))
    (λ leaf. (before ≡ nearer back (leaf_view leaf) after) × IsOn frames (leaf_view leaf))

-- a move that comes to where a trail is
abbrev pub ComesTo : Bool → Option Leaf → (before : List LeafElement) → (new : Trail) → (end : List Frame) → Type 0
ComesTo back found before new end = Finds back found before (trail_entries_left back new) (trail_frames new) end

-- a move in a direction from where a trail rests to where it rests: without an entry there, it stays
pub record Goes (back : Bool) (old new : Trail) (gives : Option Leaf) : Type 0 where
  pub moved : IsMoved old new
  pub rest : IsAtRest (trail_frames new)
  pub found : Finds back gives (trail_entries_left back old) (trail_entries_left back new) (trail_frames new) (trail_frames old)
  pub bucket : IfSome gives (λ leaf. IsTrue leaf.is_bucket → IsBucketValue leaf.value.now)
  pub opened : pager_opened new.pages.pager
      ≡ counted (pager_opened old.pages.pager) (length (pages_left back old) - opened_to (option_map leaf_view gives) (pages_left back new))
