-- Sites along ways: the spot there, the next one, and the elements.
use Rattle.std.proofs.Common.{◌≡◌, ◌∙◌, ℕ, ◌<◌, ◌≤◌, List, [], ◌∷◌, ◌++◌, length, Option, Some, slice_get, refl, sym, ap, arith}
use Rattle.bolt_recover.proofs.Words.{Contains, follow, follow_sites, has_at, has_from_contains, LeafElement, length-map, Meta, next_site, node_at}
use Rattle.bolt_recover.proofs.Words.{Nodes, option_map, Passes, Path, Site, site_at, site_on, site_size, reached, root_site, slice_get_within, Spot}
use Rattle.bolt_recover.proofs.Words.{step, step_from, step_site}
use Rattle.bolt_recover.proofs.SiteSteps.{IsTidyAt, page_form}

abbrev spot_in : Option Site → Option Spot
spot_in o = option_map (λ (p : Site). p.spot) o

spot_on : (file : List ℕ) (meta : Meta) (path : Path) (e : Option LeafElement) (s : Option Spot) → spot_in (site_on file meta path e s) ≡ s
spot_on file meta path e s = grind arith

spot_next : (file : List ℕ) (meta : Meta) (here : Option Site) (i : ℕ)
    → spot_in (next_site file meta here i) ≡ step (node_at file meta) (spot_in here) i
spot_next file meta here i = grind (arith, spot_on)

spot_follow : (file : List ℕ) (meta : Meta) (here : Option Site) (way : List ℕ)
    → spot_in (follow_sites file meta here way) ≡ follow (node_at file meta) (spot_in here) way
spot_follow file meta here [] = refl
spot_follow file meta here (i ∷ way) = let later = spot_follow file meta (next_site file meta here i) way in grind (arith, spot_next, later)

-- the spot of a site is where its way leads
pub spot_is : (file : List ℕ) (meta : Meta) (way : List ℕ) (p : Site) → site_at file meta way ≡ Some p
    → reached (node_at file meta) meta.root way ≡ Some p.spot
spot_is file meta way p is = sym (spot_follow file meta (Some (root_site file meta)) way) ∙ ap spot_in is

site_of : (o : Option Site) (s : Spot) → spot_in o ≡ Some s → (p : Site) × (o ≡ Some p) × (p.spot ≡ s)
site_of o s e = grind arith

-- and each way that leads somewhere has a site
pub site_is : (file : List ℕ) (meta : Meta) (way : List ℕ) (s : Spot) → reached (node_at file meta) meta.root way ≡ Some s
    → (p : Site) × (site_at file meta way ≡ Some p) × (p.spot ≡ s)
site_is file meta way s e = site_of (site_at file meta way) s (spot_follow file meta (Some (root_site file meta)) way ∙ e)

follow_next : (file : List ℕ) (meta : Meta) (here : Option Site) (way : List ℕ) (i : ℕ)
    → follow_sites file meta here (way ++ i ∷ []) ≡ next_site file meta (follow_sites file meta here way) i
follow_next file meta here [] i = refl
follow_next file meta here (j ∷ way) i = follow_next file meta (next_site file meta here j) way i

-- one step further
pub site_further : (file : List ℕ) (meta : Meta) (way : List ℕ) (i : ℕ) (p : Site) → site_at file meta way ≡ Some p
    → site_at file meta (way ++ i ∷ []) ≡ step_site file meta p i
site_further file meta way i p is = follow_next file meta (Some (root_site file meta)) way i ∙ ap (λ (o : Option Site). next_site file meta o i) is

pub size_enough : (file : List ℕ) (meta : Meta) (before : ℕ → Type 0) (s : Spot) (elements : List LeafElement) → IsTidyAt file meta elements s
    → Passes (node_at file meta) before s
    → length elements ≤ site_size (node_at file meta) s elements
size_enough file meta before s elements tidy passes = grind (arith, page_form, length-map)

pub leads_within : (nodes : Nodes) (s : Spot) (elements : List LeafElement) (i : ℕ) (t : Spot) → step_from nodes s i ≡ Some t
    → i < site_size nodes s elements
leads_within nodes s elements i t e = grind (arith, slice_get_within)

-- a step to a site is a step of its spot
pub step_spot : (file : List ℕ) (meta : Meta) (p t : Site) (i : ℕ) → step_site file meta p i ≡ Some t
    → step_from (node_at file meta) p.spot i ≡ Some t.spot
step_spot file meta p t i e = sym (spot_on file meta p.path (slice_get p.elements i) (step_from (node_at file meta) p.spot i)) ∙ ap spot_in e

-- where an element stands
pub slice_of : (xs : List LeafElement) (e : LeafElement) → Contains xs e → (i : ℕ) × (i < length xs) × (slice_get xs i ≡ Some e)
slice_of xs e has = let (i, get) = has_at xs e (has_from_contains xs e has) in (i, slice_get_within xs i e get, get)
