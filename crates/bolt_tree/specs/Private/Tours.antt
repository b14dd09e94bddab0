-- The tour of a bucket: its pages in the order of ways, which the cursor goes along. Addresses rise along it, and so do keys.
-- So the entries are the tour's elements one after another, and each count is a position on the tour.
use Rattle.std.specs.Prelude.{ℕ, zero, suc, List, [], ◌∷◌, ◌++◌}
use Rattle.std.specs.List.{flat_map}
use Rattle.bolt_format.specs.{Elements.BranchElement, Elements.LeafElement, declared.meta.Meta.Meta}
use Rattle.bolt_tree.specs.Private.Contents.{Content, Contents, Of_branch, Of_leaf, content_at}
use Rattle.bolt_tree.specs.Entries.{Inline_page, Root_page, Start}

-- A page of the bucket with its address; a branch has no entries.
pub record TourPage : Type 0 where
  pub address : List ℕ
  pub entries : List LeafElement

-- what lies under the elements of a branch, the first of which has number i
abbrev pub all_under : (ℕ → ℕ → List TourPage) → ℕ → List BranchElement → List TourPage
all_under f i [] = []
all_under f i (e ∷ elements) = f i e.child ++ all_under f (suc i) elements

-- the pages from a page on, itself first and then what lies under each element in turn, at most n steps down
abbrev pub tour : Contents → ℕ → List ℕ → Content → List TourPage
tour contents n address (Of_leaf elements) = record { address = address; entries = elements } ∷ []
tour contents zero address (Of_branch elements) = record { address = address; entries = [] } ∷ []
tour contents (suc n) address (Of_branch elements) =
    record { address = address; entries = [] } ∷ all_under (λ i child. tour contents n (address ++ i ∷ []) (contents child)) 0 elements

abbrev pub content_at_start : Contents → Start → Content
content_at_start contents (Root_page number) = contents number
content_at_start contents (Inline_page elements) = Of_leaf elements

-- all pages of a bucket, none more than 63 steps below its root page, and its elements in their order
abbrev pub pages_at : List ℕ → Meta → Start → List TourPage
pages_at file meta start = tour (content_at file meta) 63 [] (content_at_start (content_at file meta) start)

abbrev pub tour_elements : List TourPage → List LeafElement
tour_elements visits = flat_map (λ (v : TourPage). v.entries) visits
