-- Where an element of an open page leads, as a site.
use Rattle.std.proofs.Common.{◌≡◌, ℕ, ◌<◌, Bool, true, List, Option, Some, None, Ok, IfSome, length, slice_get, refl, arith}
use Rattle.bolt_recover.proofs.Words.{InlinePage, At_inline, content_site, Entry, LeafElement, length-map, Meta, node_at, option_map, page_spot}
use Rattle.bolt_recover.proofs.Words.{PageSpot, Path, site_on, shown_node, slice_get_cases, spot_at, spot_site, step_entry, step_on, step_path}
use Rattle.bolt_recover.proofs.Words.{step_site, TreePage}
use Rattle.bolt_format.specs.TreePages.{page_keys, shown_page}
use Rattle.bolt_check.specs.{ShownSpots.IsInner, declared.spot.PageSpot.PageSpot as CodePageSpot, declared.spot.Spot.Spot}
use Rattle.bolt_check.specs.declared.spot.Spot.TheVariants as spots

-- only an element of a leaf leads to an inline bucket
from_leaf : (is_leaf : Bool) (s : PageSpot) (e next : Option Entry) (host : ℕ) (inner : InlinePage)
    → Some (At_inline host inner) ≡ step_entry is_leaf s e next → is_leaf ≡ true
from_leaf is_leaf s e next host inner h = grind arith

no_leaf : (page : TreePage) (i : ℕ) → (shown_node page).is_leaf ≡ true → i < length (page_keys page) → slice_get (shown_page page).leaves i ≡ None → ⊥
unfolding shown_node
no_leaf page i is below none = grind (arith, slice_get_cases, length-map)

site_of : (file : List ℕ) (meta : Meta) (path : Path) (o : Option LeafElement) (r : Option Spot)
    → ((s : Spot) → r ≡ Some s → o ≡ None → (host : ℕ) (inner : InlinePage) → spot_at s ≡ At_inline host inner → ⊥)
    → IfSome r (λ (s : Spot). (e : LeafElement) → o ≡ Some e → IsInner e.value s)
    → site_on file meta path o (option_map spot_at r) ≡ option_map (spot_site file meta (step_path path o)) r
site_of file meta path (Some e) (Some (spots.Bucket s)) not inner = rw (inner e refl) refl
site_of file meta path o r not inner = grind arith

pub leads_to : (file : List ℕ) (meta : Meta) (path : Path) (page : TreePage) (s : CodePageSpot) (i : ℕ) (r : Option Spot)
    → node_at file meta s.number ≡ Ok (shown_node page) → i < length (page_keys page)
    → option_map spot_at r ≡ step_on (shown_node page) (page_spot s) i
    → IfSome r (λ (spot : Spot). (e : LeafElement) → slice_get (shown_page page).leaves i ≡ Some e → IsInner e.value spot)
    → step_site file meta (content_site path (record { spot = spots.Page s; page = page })) i ≡ option_map
    (spot_site file meta (step_path path (slice_get (shown_page page).leaves i))) r
leads_to file meta path page s i r node below leads inner = grind (arith, site_of, no_leaf, from_leaf)
