-- The open pages of the code as what is still to be done.
use Rattle.std.specs.Prelude.{◌≡◌, ◌≤◌, ◌<◌, IsTrue, ℕ, ◌+◌, ◌-◌, ◌*◌, Bool, true, false, List, [], ◌∷◌, ◌++◌, length, map, take, Option, Some, None}
use Rattle.std.specs.Prelude.{Ok, slice_get, sum_by}
use Rattle.std.specs.Option.{option_map}
use Rattle.bolt_format.specs.{ElementPlaces.leaf_view, Elements.IsBucketValue, Elements.LeafElement, Pages.page_at, ShownInline.shown_inline}
use Rattle.bolt_format.specs.{TreePages.page_keys, TreePages.shown_page}
use Rattle.bolt_format.specs.{declared.meta.Meta.Meta, declared.tree_page.TreePage.TreePage}
use Rattle.bolt_format.specs.declared.element.Leaf as element
use Rattle.bolt_check.specs.{Claims.claims_file, Claims.claims_meta, Claims.claims_nodes, Claims.claims_visited, Claims.is_claimed, Nodes.node_at}
use Rattle.bolt_check.specs.{ShownNodes.is_leaf_page, ShownNodes.shown_node}
use Rattle.bolt_check.specs.{ShownSpots.spot_at, Ways.Spot, declared.claims.Claims.Claims, declared.finding.Finding.Finding}
use Rattle.bolt_check.specs.{declared.spot.Spot.Spot as CodeSpot}
use Rattle.bolt_check.specs.declared.spot.Spot.TheVariants as spots
use Rattle.bolt_tree.specs.{Entries.item_of, Listing.Member, Paths.Path, Paths.path_of}
use Rattle.bolt_recover.specs.{PageGaps.page_gap_view, Losses.LossView, Losses.loss_on, Sites.Site, Sites.leaves_of, Sites.step_site}
use Rattle.bolt_recover.specs.Private.Courses.{Event, Outcome, Task, To_visit, Way, after_events, all_events, claimed_after, events, further}
use Rattle.bolt_recover.specs.Private.Courses.{members_of, outcome_of, tasks_from}
use Rattle.bolt_recover.specs.{ShownLosses.loss_view, declared.kept_page.KeptPage.KeptPage, declared.kept_page.OpenPage.OpenPage}
use Rattle.bolt_recover.specs.{declared.steps.NextVisit.NextVisit, declared.steps.Steps.Steps}
use Rattle.bolt_recover.specs.{declared.steps.StepResult.StepResult, declared.steps.StepResult.TheVariants.End, declared.steps.StepResult.TheVariants.Leaf}
use Rattle.bolt_recover.specs.{declared.steps.StepResult.TheVariants.Nothing}

-- what a spot leads to
abbrev pub spot_elements : List ℕ → Meta → CodeSpot → List LeafElement
spot_elements file meta (spots.Page s) = leaves_of (page_at file meta s.number)
spot_elements file meta (spots.Bucket s) = shown_inline s.page

abbrev pub spot_site : List ℕ → Meta → Path → CodeSpot → Site
spot_site file meta path s = record { spot = spot_at s; path = path; elements = spot_elements file meta s }

-- an open page as a site
abbrev pub content_spot : KeptPage → Spot
content_spot content = spot_at content.spot

abbrev pub content_elements : KeptPage → List LeafElement
content_elements content = (shown_page content.page).leaves

abbrev pub content_size : KeptPage → ℕ
content_size content = length (page_keys content.page)

abbrev pub content_site : Path → KeptPage → Site
content_site path content = record { spot = content_spot content; path = path; elements = content_elements content }

-- the page is the one that the file has under its number, no more than 64 pages deep in its bucket
abbrev pub IsGoodAt : List ℕ → Meta → TreePage → CodeSpot → Type 0
IsGoodAt file meta page (spots.Page s) =
    (node_at file meta s.number ≡ Ok (shown_node page)) × (page_at file meta s.number ≡ Some (shown_page page)) × (s.depth ≤ 64)
IsGoodAt file meta page (spots.Bucket s) = (is_leaf_page page ≡ true) × ((shown_page page).leaves ≡ shown_inline s.page)

abbrev pub IsGoodKeptPage : List ℕ → Meta → KeptPage → Type 0
IsGoodKeptPage file meta content = IsGoodAt file meta content.page content.spot

abbrev pub IsShallowAt : CodeSpot → Type 0
IsShallowAt (spots.Page s) = s.depth ≤ 64
IsShallowAt (spots.Bucket s) = Unit {0}

abbrev pub IsShallow : KeptPage → Type 0
IsShallow content = IsShallowAt content.spot

-- the path of the bucket that a step comes to
abbrev pub step_path : Path → Option LeafElement → Path
step_path path None = path
step_path path (Some e) = path ++ e.key ∷ []

-- where element i of an open page leads, in whatever bucket that is
abbrev pub ElementLeads : KeptPage → ℕ → Option CodeSpot → Type 0
ElementLeads content i to = (file : List ℕ) (meta : Meta) (path : Path) → IsGoodKeptPage file meta content
    → step_site file meta (content_site path content) i ≡ option_map (spot_site file meta (step_path path (slice_get (content_elements content) i))) to

-- element n is a value, which leads nowhere
abbrev pub IsValueElement : List LeafElement → ℕ → Type 0
IsValueElement elements n = option_map (λ (e : LeafElement). e.is_bucket) (slice_get elements n) ≡ Some false

-- the pages that are claimed once a spot is kept
abbrev pub claims_with : Claims → Spot → ℕ → Bool
claims_with claims s = claimed_after (claims_nodes claims) (is_claimed claims) s None

-- what a visit of a spot opens
pub record IsContent (file : List ℕ) (meta : Meta) (s : CodeSpot) (content : KeptPage) : Type 0 where
  pub spot : content_spot content ≡ spot_at s
  pub elements : content_elements content ≡ spot_elements file meta s
  pub good : IsGoodKeptPage file meta content

pub record IsGoodPage (file : List ℕ) (meta : Meta) (page : OpenPage) : Type 0 where
  pub content : IsGoodKeptPage file meta page.content
  pub count : page.count ≡ content_size page.content
  pub fits : page.count < 65536
  pub taken : page.next ≤ page.count

-- Good pages, each in a bucket whose path is as long as that of the one before or longer, from one length to another.
abbrev pub AreOpenPages : List ℕ → Meta → (low : ℕ) → List OpenPage → (high : ℕ) → Type 0
AreOpenPages file meta low [] high = low ≤ high
AreOpenPages file meta low (page ∷ pages) high = (low ≤ page.path_len) × IsGoodPage file meta page × AreOpenPages file meta page.path_len pages high

abbrev pub ahead_path_len : Option NextVisit → ℕ → ℕ
ahead_path_len None high = high
ahead_path_len (Some ahead) high = ahead.path_len

-- Good pages, no longer in their buckets' paths than what is ahead, and that no longer than the path.
pub record HasOpen (file : List ℕ) (meta : Meta) (long : ℕ) (ahead : Option NextVisit) (stack : List OpenPage) : Type 0 where
  pub pages : AreOpenPages file meta 0 stack (ahead_path_len ahead long)
  pub within : ahead_path_len ahead long ≤ long

-- the way to what an element of the last of these pages leads to
abbrev pub way_of : List OpenPage → Way
way_of pages = map (λ (page : OpenPage). page.next - 1) pages

-- what is left of an open page, and of all of them, the innermost first
abbrev pub page_tasks : List ℕ → Meta → Path → Way → OpenPage → List Task
page_tasks file meta path way page = tasks_from file meta way (content_site (take page.path_len path) page.content) page.next (page.count - page.next)

abbrev pub open_tasks : List ℕ → Meta → Path → Way → List OpenPage → List Task → List Task
open_tasks file meta path way [] rest = rest
open_tasks file meta path way (page ∷ pages) rest = open_tasks file meta path (further way (page.next - 1)) pages (page_tasks file meta path way page ++ rest)

abbrev pub ahead_tasks : List ℕ → Meta → Path → Way → Option NextVisit → List Task → List Task
ahead_tasks file meta path way None rest = rest
ahead_tasks file meta path way (Some ahead) rest = To_visit way (spot_site file meta (take ahead.path_len path) ahead.spot) ∷ rest

abbrev pub tasks_left : List ℕ → Meta → Path → Option NextVisit → List OpenPage → List Task
tasks_left file meta path ahead pages = ahead_tasks file meta path (way_of pages) ahead (open_tasks file meta path [] pages [])

-- what is left of steps: tasks, and all that comes of them
abbrev pub steps_path : Steps → Path
steps_path steps = path_of steps.path.items

-- the loss of a visit that is ahead
abbrev pub loss_ahead : Steps → NextVisit → Finding → LossView
loss_ahead steps ahead finding = loss_on (take ahead.path_len (steps_path steps)) (spot_at ahead.spot) finding

abbrev pub steps_left : Steps → List Event
steps_left steps =
    events (claims_file steps.claims) (claims_meta steps.claims)
    (tasks_left (claims_file steps.claims) (claims_meta steps.claims) (steps_path steps) steps.ahead steps.open.items) (is_claimed steps.claims)

abbrev pub members_left : Steps → List Member
members_left steps = members_of (steps_left steps)

-- what came of the steps so far, and what will have come of them at the end
abbrev pub tally_of : Steps → Outcome
tally_of steps = record {
  losses = map loss_view steps.losses.items;
  gaps = map page_gap_view steps.gaps.items;
  visited = claims_visited steps.claims;
  claimed = is_claimed steps.claims;
}

abbrev pub outcome_left : Steps → Outcome
outcome_left steps = after_events (claims_file steps.claims) (claims_meta steps.claims) (tally_of steps) (steps_left steps)

abbrev pub AreStepsPlaced : Steps → Type 0
AreStepsPlaced steps = HasOpen (claims_file steps.claims) (claims_meta steps.claims) (length (steps_path steps)) steps.ahead steps.open.items

-- the whole file is left, but that the root page is visited, if so many visits were made before
pub record IsAllLeft (file : List ℕ) (meta : Meta) (begun : ℕ) (steps : Steps) : Type 0 where
  pub members : members_left steps ≡ members_of (all_events file meta)
  pub outcome : outcome_left steps ≡ outcome_of file meta begun (all_events file meta)

-- How much there is to do at most: a page holds fewer than 65536 elements.
abbrev pub page_weight : OpenPage → ℕ
page_weight page = 1 + (page.count - page.next)

abbrev pub steps_weight : Steps → ℕ
steps_weight steps = length (steps_left steps) * 65537 + sum_by page_weight steps.open.items

-- a step keeps file and meta, its open pages are good, and the same comes of it in the end
pub record StaysOn (old new : Steps) : Type 0 where
  pub file : claims_file new.claims ≡ claims_file old.claims
  pub meta : claims_meta new.claims ≡ claims_meta old.claims
  pub placed : AreStepsPlaced new
  pub outcome : outcome_left new ≡ outcome_left old

-- nothing was returned
pub record StepsOn (old new : Steps) : Type 0 where
  pub on : StaysOn old new
  pub path : steps_path new ≡ steps_path old
  pub members : members_left new ≡ members_left old
  pub less : steps_weight new ≤ steps_weight old

-- element `e` was returned
pub record GivesHead (old new : Steps) (e : LeafElement) : Type 0 where
  pub on : StaysOn old new
  pub head : members_left old ≡ (steps_path new, item_of e) ∷ members_left new

-- some members were dropped
pub record Skips (old new : Steps) : Type 0 where
  pub on : StaysOn old new
  pub dropped : List Member
  pub left : members_left old ≡ dropped ++ members_left new

-- nothing was left
pub record Ends (old new : Steps) : Type 0 where
  pub on : StaysOn old new
  pub path : steps_path new ≡ []
  pub none : members_left old ≡ []
  pub ended : steps_left new ≡ []

abbrev pub TakesStep : Steps → Steps → StepResult → Type 0
TakesStep old new (Leaf leaf) = GivesHead old new (leaf_view leaf)
TakesStep old new Nothing = StepsOn old new × (steps_weight new < steps_weight old)
TakesStep old new End = Ends old new

-- a bucket that is returned has a bucket's value
abbrev pub TakesBucket : StepResult → Type 0
TakesBucket (Leaf leaf) = IsTrue leaf.is_bucket → IsBucketValue leaf.value.now
TakesBucket Nothing = Unit {0}
TakesBucket End = Unit {0}

abbrev pub Advances : Steps → Steps → Option element.Leaf → Type 0
Advances old new (Some leaf) = GivesHead old new (leaf_view leaf)
Advances old new None = Ends old new

-- Steps over a file under this meta, begun after so many visits: in the end, all that comes of the file will have come of them.
pub record StepsAreOn (steps : Steps) (under : Meta) (begun : ℕ) : Type 0 where
  pub meta : claims_meta steps.claims ≡ under
  pub comes : outcome_left steps ≡ outcome_of (claims_file steps.claims) under begun (all_events (claims_file steps.claims) under)
