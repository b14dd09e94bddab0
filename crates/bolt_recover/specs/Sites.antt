-- What a way leads to, with the path of its bucket and the elements there: docs/RECOVERY.md, "Ways".
use Rattle.std.specs.Prelude.{◌≡◌, ℕ, List, [], ◌∷◌, ◌++◌, Option, Some, None, slice_get}
use Rattle.bolt_format.specs.{Elements.LeafElement, Elements.inline_elements, Pages.PageView, Pages.page_at, declared.meta.Meta.Meta}
use Rattle.bolt_check.specs.{Nodes.node_at, Ways.At_inline, Ways.At_page, Ways.Spot, Ways.root_spot, Ways.step_from}
use Rattle.bolt_tree.specs.Paths.{Path}

-- The spot, the path of the bucket that it lies in, and the elements of the leaf page or inline page there; a branch has none.
pub record Site : Type 0 where
  pub spot : Spot
  pub path : Path
  pub elements : List LeafElement

abbrev pub leaves_of : Option PageView → List LeafElement
leaves_of None = []
leaves_of (Some view) = view.leaves

-- the elements at a spot; an inline page has its own in a bucket's value
abbrev pub elements_at : List ℕ → Meta → Spot → List ℕ → List LeafElement
elements_at file meta (At_page s) value = leaves_of (page_at file meta s.number)
elements_at file meta (At_inline host inner) value = inline_elements value

-- an element of a leaf leads into the bucket that it is, and one of a branch stays in the bucket
abbrev pub site_on : List ℕ → Meta → Path → Option LeafElement → Option Spot → Option Site
site_on file meta path e None = None
site_on file meta path (Some e) (Some spot) = Some (record { spot = spot; path = path ++ e.key ∷ []; elements = elements_at file meta spot e.value })
site_on file meta path None (Some spot) = Some (record { spot = spot; path = path; elements = elements_at file meta spot [] })

abbrev pub step_site : List ℕ → Meta → Site → ℕ → Option Site
step_site file meta p i = site_on file meta p.path (slice_get p.elements i) (step_from (node_at file meta) p.spot i)

abbrev pub next_site : List ℕ → Meta → Option Site → ℕ → Option Site
next_site file meta None i = None
next_site file meta (Some p) i = step_site file meta p i

abbrev pub follow_sites : List ℕ → Meta → Option Site → List ℕ → Option Site
follow_sites file meta here [] = here
follow_sites file meta here (i ∷ way) = follow_sites file meta (next_site file meta here i) way

abbrev pub root_site : List ℕ → Meta → Site
root_site file meta = record { spot = At_page (root_spot meta.root); path = []; elements = leaves_of (page_at file meta meta.root) }

-- what a way leads to
abbrev pub site_at : List ℕ → Meta → List ℕ → Option Site
site_at file meta way = follow_sites file meta (Some (root_site file meta)) way

-- the way leads to a site of which this holds
abbrev pub AtSite : List ℕ → Meta → List ℕ → (Site → Type 0) → Type 0
AtSite file meta way P = (site : Site) × (site_at file meta way ≡ Some site) × P site
