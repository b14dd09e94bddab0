-- What the open runs of a bucket become, with the items that are still to come; and so of all buckets that a pass has open.
use Rattle.std.specs.Prelude.{◌≡◌, ◌≤◌, ℕ, suc, List, [], ◌∷◌, ◌++◌, length, Option, map}
use Rattle.bolt_format.specs.Elements.{BranchElement, LeafElement}
use Rattle.bolt_layout.specs.{Cut.branch_cut, Cut.cut_from, Items.bucket_item, Items.items_of, Laid.Laid, Laid.size_of, Levels.branch_page_view}
use Rattle.bolt_layout.specs.{Levels.leaf_page_view, Levels.page_over, Levels.top_of}
use Rattle.bolt_layout.specs.{Limits.HaveRightLimits, Limits.cut_within, declared.Layout.Layout}
use Rattle.bolt_bulk.specs.{Private.OpenRuns.BucketFrame, Private.OpenRuns.Open, Private.OpenRuns.Upper, Private.OpenRuns.key_size}
use Rattle.bolt_bulk.specs.{Private.OpenRuns.pushing, Private.RowLimits.bucket_limit}

-- The pages are all of one level, the root is the page at the top over them, and the limits give the rows above as the layout has them.
pub record IsUnder (which : Layout) (page_size : ℕ) (limits : ℕ → Option ℕ) (pages : List (Laid BranchElement)) (root : Laid BranchElement) : Type 0 where
  pub top : top_of which page_size pages ≡ root
  pub right : HaveRightLimits which page_size limits pages

-- What open upper runs become, with the pages that are still to come from below, of all pages there. The first of these is under way, and
-- is in the run above. `closed` runs of that row have closed, and the open run is the first of the others.
pub record Stands (which : Layout) (page_size : ℕ) (upper : Upper) (all : List (Laid BranchElement)) (page : Laid BranchElement)
    (pages : List (Laid BranchElement)) : Type 0 where
  pub runs : List (List (Laid BranchElement))
  pub count : length runs ≡ upper.closed
  pub cut : branch_cut which page_size size_of all ≡ runs ++ cut_within page_size size_of upper.allowed (upper.run ++ page ∷ []) pages
  pub some : 2 ≤ length all

abbrev pub Comes : Layout → ℕ → (ℕ → Option ℕ) → List Upper → List (Laid BranchElement) → List (Laid BranchElement) → Laid BranchElement → Type 0
Comes which page_size limits [] all pages root = (pages ≡ all) × IsUnder which page_size limits pages root
Comes which page_size limits (upper ∷ uppers) all [] root = ⊥
Comes which page_size limits (upper ∷ uppers) all (page ∷ pages) root = Stands which page_size upper all page pages
    × Comes which page_size (λ k. limits (suc k)) uppers (map (page_over branch_page_view page_size) (branch_cut which page_size size_of all))
    (map (page_over branch_page_view page_size) (cut_within page_size size_of upper.allowed (upper.run ++ page ∷ []) pages)) root

-- the leaves of an open bucket, with the items that are still to come
abbrev pub leaves_coming : ℕ → List (Laid LeafElement) → List (Laid LeafElement) → List (Laid BranchElement)
leaves_coming page_size run items = map (page_over leaf_page_view page_size) (cut_from page_size 1 size_of run items)

-- an open bucket becomes this root page
pub record BecomesRoot (which : Layout) (page_size : ℕ) (state : Open) (items : List (Laid LeafElement)) (root : Laid BranchElement) : Type 0 where
  pub comes : Comes which page_size (bucket_limit state.known.limits) state.uppers state.known.leaves (leaves_coming page_size state.run items) root

-- only a bucket that has taken no item yet has an empty run
abbrev pub HasBegun : Open → Type 0
HasBegun state = state.run ≡ [] → state.uppers ≡ []

-- A page's key and size.
abbrev pub IsSized : Laid BranchElement → Type 0
IsSized page = page.size ≡ key_size page.key

-- the item of the bucket within, if it becomes this root page
abbrev pub held_item : BucketFrame → Laid BranchElement → Laid LeafElement
held_item frame root = bucket_item frame.key frame.sequence root

-- if the innermost bucket becomes `root`, all of them become `whole`
abbrev pub BecomesWhole : Layout → ℕ → List BucketFrame → Laid BranchElement → Laid BranchElement → Type 0
BecomesWhole which page_size [] root whole = root ≡ whole
BecomesWhole which page_size (frame ∷ frames) root whole = (outer : Laid BranchElement)
    × BecomesRoot which page_size (pushing frame.state (held_item frame root)) (items_of which page_size frame.after) outer
    × BecomesWhole which page_size frames outer whole

pub record IsPass (which : Layout) (page_size : ℕ) (frames : List BucketFrame) (state : Open) (items : List (Laid LeafElement))
    (whole : Laid BranchElement) : Type 0 where
  pub root : Laid BranchElement
  pub current : BecomesRoot which page_size state items root
  pub begun : HasBegun state
  pub stack : BecomesWhole which page_size frames root whole
