-- What a damaged file still holds: docs/RECOVERY.md, "The recovered listing".
use Rattle.std.specs.Prelude.{◌≡◌, ◌↔◌, ℕ, List, [], ◌∷◌, ◌++◌, Contains, Some}
use Rattle.bolt_lemmas.specs.Lists.{Has}
use Rattle.bolt_lemmas.specs.Order.{Rises}
use Rattle.bolt_format.specs.{Elements.LeafElement, declared.meta.Meta.Meta}
use Rattle.bolt_tree.specs.{Entries.IsEntry, Entries.Item, Entries.Root_page, Entries.item_of, Listing.Member, Listing.member_cmp}
use Rattle.bolt_tree.specs.{Paths.Holds, Paths.Path}
use Rattle.bolt_recover.specs.{Sites.Site, Sites.site_at, Surveys.IsSurvey, Surveys.SurveyedWay, Surveys.way_kept}

-- an element of the leaf page or inline page at a kept way, under the path of its bucket
pub record IsRecoveredMember (file : List ℕ) (meta : Meta) (survey : List SurveyedWay) (path : Path) (item : Item) : Type 0 where
  pub way : List ℕ
  pub site : Site
  pub element : LeafElement
  pub keeps : Has survey (way_kept way)
  pub leads : site_at file meta way ≡ Some site
  pub has : Contains site.elements element
  pub named : path ≡ site.path ++ element.key ∷ []
  pub is : item ≡ item_of element

-- Each recovered member is what its path holds: an entry of the bucket that the path names.
abbrev pub AreInTheirBuckets : List ℕ → Meta → List SurveyedWay → Type 0
AreInTheirBuckets file meta survey =
    (path : Path) (item : Item) → IsRecoveredMember file meta survey path item → Holds (IsEntry file meta) (Root_page meta.root) path item

-- the rising list of exactly these
pub record IsRecovered (file : List ℕ) (meta : Meta) (listing : List Member) : Type 0 where
  pub survey : List SurveyedWay
  pub surveys : IsSurvey file meta survey
  pub rises : Rises member_cmp listing
  pub exact : (path : Path) (item : Item) → Contains listing (path, item) ↔ IsRecoveredMember file meta survey path item

-- What is promised of the recovered listing is promised for each; there is exactly one (`laws`).
abbrev pub ForRecovered : List ℕ → Meta → (List Member → Type 0) → Type 0
ForRecovered file meta P = (listing : List Member) → IsRecovered file meta listing → P listing
