-- The way to the first leaf of the root bucket, as far as it was gone.
use Rattle.std.specs.Prelude.{◌≡◌, ◌≤◌, ◌⊎◌, ◌∷◌, ◌++◌, ℕ, false, [], List, Contains, Some}
use Rattle.bolt_check.specs.declared.spot.PageSpot.{PageSpot as CodePageSpot}
use Rattle.bolt_check.specs.declared.spot.Spot.TheVariants as spots
use Rattle.bolt_format.specs.{Elements.LeafElement, TreePages.leaves_on, declared.tree_page.LeafPage.LeafPage, declared.tree_page.TreePage.TreePage}
use Rattle.bolt_recover.specs.Private.Frames.{ElementLeads}
use Rattle.bolt_check.specs.{Findings.IsMetaPage, Nodes.node_at, ShownSpots.page_spot, Ways.At_page, Ways.PageSpot, Ways.reached}
use Rattle.bolt_format.specs.{Pages.page_at, declared.meta.Meta.Meta}
use Rattle.bolt_recover.specs.{Sites.leaves_of, Sites.site_at, States.HasBucketsAlone, Surveys.ForSurvey, Surveys.IsClaimedIn, Surveys.IsOpen}
use Rattle.bolt_recover.specs.declared.first_leaf.{FirstWay.FirstWay, Hull.Hull, Look.Look, Look.TheVariants.Next, Look.TheVariants.Unknown}
use Rattle.bolt_recover.specs.declared.first_leaf.{Look.TheVariants.Value}

-- between the lowest and the highest page of the spans on the way
abbrev pub IsInHull : Hull → ℕ → Type 0
IsInHull hull n = (hull.from ≤ n) × (n ≤ hull.last)

-- The way leads to this page of the root bucket, its parent is kept, and all that was claimed before lies between these pages.
pub record LeadsFirst (file : List ℕ) (meta : Meta) (way : List ℕ) (spot : PageSpot) (hull : Hull) : Type 0 where
  pub site : site_at file meta way ≡ Some (record { spot = At_page spot; path = []; elements = leaves_of (page_at file meta spot.number) })
  pub opened : ForSurvey file meta (λ survey. IsOpen survey way)
  pub claimed : ForSurvey file meta
      (λ survey. (n : ℕ) → IsClaimedIn (node_at file meta) (reached (node_at file meta) meta.root) survey way n → IsMetaPage n ⊎ IsInHull hull n)

abbrev pub IsFirstWay : List ℕ → Meta → (way : List ℕ) → FirstWay → Type 0
IsFirstWay file meta way at = LeadsFirst file meta way (page_spot at.spot) at.hull

-- what a look at that page says: its leaf has a value, or the way goes on to its first child, or nothing is known
abbrev pub Says : List ℕ → Meta → (way : List ℕ) → Look → Type 0
Says file meta way Value = HasBucketsAlone file meta → ⊥
Says file meta way (Next next) = IsFirstWay file meta (way ++ 0 ∷ []) next
Says file meta way Unknown = Unit {0}

-- where the first element of a page leads
abbrev pub IsFirstChild : CodePageSpot → TreePage → Hull → Look → Type 0
IsFirstChild spot page hull (Next next) = ElementLeads (record { spot = spots.Page spot; page = page }) 0 (Some (spots.Page next.spot)) × (next.hull ≡ hull)
IsFirstChild spot page hull Value = ⊥
IsFirstChild spot page hull Unknown = Unit {0}

-- whether a leaf has a value
abbrev pub IsLeafLook : LeafPage → Look → Type 0
IsLeafLook leaf Value = (e : LeafElement) × Contains (leaves_on leaf) e × (e.is_bucket ≡ false)
IsLeafLook leaf (Next next) = ⊥
IsLeafLook leaf Unknown = Unit {0}
