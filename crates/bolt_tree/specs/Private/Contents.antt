-- What a page of the tree shows, as a leaf or a branch: what the cursor sees of it.
use Rattle.std.specs.Prelude.{ℕ, List, [], length, map, Option, Some, None}
use Rattle.bolt_format.specs.{Elements.BranchElement, Elements.LeafElement, Pages.PageView, Pages.page_at, declared.header.Kind.Kind}
use Rattle.bolt_format.specs.{declared.meta.Meta.Meta}
use Rattle.bolt_format.specs.declared.header.Kind.TheVariants as kind
use Rattle.bolt_check.specs.{CheckedFiles.bytes_of, CheckedFiles.meta_of, Keys.Key, declared.checked.Checked.Checked}

-- the elements of a leaf or of a branch
pub data Content : Type 0 where
  Of_leaf : List LeafElement → Content
  Of_branch : List BranchElement → Content

abbrev pub content_by : Kind → PageView → Content
content_by kind.Branch view = Of_branch view.branches
content_by kind.Leaf view = Of_leaf view.leaves
content_by kind.Meta view = Of_leaf []
content_by kind.Freelist view = Of_leaf []

abbrev pub content_of : PageView → Content
content_of view = content_by view.kind view

abbrev pub content_seen : Option PageView → Content
content_seen (Some view) = content_of view
content_seen None = Of_leaf []

-- the content of each page, by its number
abbrev pub Contents : Type 0
Contents = ℕ → Content

unfoldable pub content_at : List ℕ → Meta → Contents
content_at file meta number = content_seen (page_at file meta number)

-- the content of a page of a checked file
abbrev pub checked_content : Checked → ℕ → Content
checked_content checked number = content_at (bytes_of checked) (meta_of checked) number

-- how many elements a page's content has, and their keys
abbrev pub content_length : Content → ℕ
content_length (Of_leaf elements) = length elements
content_length (Of_branch elements) = length elements

abbrev pub content_keys : Content → List Key
content_keys (Of_leaf elements) = map (λ (e : LeafElement). e.key) elements
content_keys (Of_branch elements) = map (λ (e : BranchElement). e.key) elements
