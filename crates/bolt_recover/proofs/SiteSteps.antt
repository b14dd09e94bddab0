-- Where the entries of a page lead: the buckets on a leaf, and the children of a branch.
use Rattle.std.proofs.Common.{◌≡◌, ◌∙◌, ◌⊎◌, ℕ, suc, true, false, List, [], ◌∷◌, ◌++◌, map, Option, Some, Result, Ok, slice_get, refl, sym, ap, subst}
use Rattle.std.proofs.Common.{arith}
use Rattle.bolt_recover.proofs.Words.{At_inline, At_page, bucket_spot, child_spot, elements_at, Entry, Key, leaf_entry, LeafElement, leaves_of, Meta}
use Rattle.bolt_recover.proofs.Words.{Node, node_at, page_at, PageSpot, Path, Site, site_on, root_site, slice_get-map, Spot, step_at, step_entry}
use Rattle.bolt_recover.proofs.Words.{step_from, step_site, upper_from}

abbrev pub keys_in : List LeafElement → List Key
keys_in elements = map (λ (e : LeafElement). e.key) elements

-- the elements at a site are those that its spot speaks of
abbrev pub IsTidyAt : List ℕ → Meta → List LeafElement → Spot → Type 0
IsTidyAt file meta elements (At_page s) = elements ≡ leaves_of (page_at file meta s.number)
IsTidyAt file meta elements (At_inline host inner) = inner.keys ≡ keys_in elements

abbrev pub IsTidy : List ℕ → Meta → Site → Type 0
IsTidy file meta p = IsTidyAt file meta p.elements p.spot

-- a page that is a node is a leaf with an entry for each element, or a branch, which shows none
abbrev pub HasForm : Node → List LeafElement → Type 0
HasForm node leaves = ((node.is_leaf ≡ true) × (node.entries ≡ map leaf_entry leaves)) ⊎ ((node.is_leaf ≡ false) × (leaves ≡ []))

pub page_form : (file : List ℕ) (meta : Meta) (n : ℕ) (node : Node) → node_at file meta n ≡ Ok node → HasForm node (leaves_of (page_at file meta n))
unfolding node_at page_at
page_form file meta n node is = grind arith

module _ (file : List ℕ) (meta : Meta) where
  -- where a bucket on a leaf leads, and a child of a branch
  abbrev pub bucket_site : Path → PageSpot → LeafElement → Site
  bucket_site path s e = record {
    spot = bucket_spot s.number (leaf_entry e);
    path = path ++ e.key ∷ [];
    elements = elements_at file meta (bucket_spot s.number (leaf_entry e)) e.value;
  }

  abbrev pub child_site : Path → PageSpot → Entry → Option Entry → Site
  child_site path s x next = record { spot = At_page (child_spot s x (upper_from next s.upper)); path = path; elements = leaves_of (page_at file meta x.child) }

  pub record IsLeafPage (p : Site) (s : PageSpot) (node : Node) : Type 0 where
    pub leaf : node.is_leaf ≡ true
    pub entries : node.entries ≡ map leaf_entry p.elements
    pub to : (i : ℕ) (e : LeafElement) → slice_get p.elements i ≡ Some e → e.is_bucket ≡ true
        → step_site file meta p i ≡ Some (bucket_site p.path s e)
    pub from : (i : ℕ) (t : Site) → step_site file meta p i ≡ Some t
        → (e : LeafElement) × (slice_get p.elements i ≡ Some e) × (e.is_bucket ≡ true) × (t ≡ bucket_site p.path s e)

  pub record IsBranchPage (p : Site) (s : PageSpot) (node : Node) : Type 0 where
    pub branch : node.is_leaf ≡ false
    pub none : p.elements ≡ []
    pub to : (i : ℕ) (x : Entry) → slice_get node.entries i ≡ Some x
        → step_site file meta p i ≡ Some (child_site p.path s x (slice_get node.entries (suc i)))
    pub from : (i : ℕ) (t : Site) → step_site file meta p i ≡ Some t
        → (x : Entry) × (slice_get node.entries i ≡ Some x) × (t ≡ child_site p.path s x (slice_get node.entries (suc i)))

  by_form : (p : Site) (s : PageSpot) (node : Node) → HasForm node p.elements
      → ((i : ℕ) → step_site file meta p i ≡ site_on file meta p.path (slice_get p.elements i)
      (step_entry node.is_leaf s (slice_get node.entries i) (slice_get node.entries (suc i))))
      → IsLeafPage p s node ⊎ IsBranchPage p s node
  by_form p s node h step = grind (arith, slice_get-map)

  pub on_page : (p : Site) (s : PageSpot) (node : Node) → IsTidy file meta p → p.spot ≡ At_page s → node_at file meta s.number ≡ Ok node
      → IsLeafPage p s node ⊎ IsBranchPage p s node
  on_page p s node tidy at page =
      by_form p s node (subst (HasForm node) (sym (subst (IsTidyAt file meta p.elements) at tidy)) (page_form file meta s.number node page)) (λ i.
      ap (λ (t : Spot). site_on file meta p.path (slice_get p.elements i) (step_from (node_at file meta) t i)) at
      ∙ ap (λ (r : Result Node ℕ). site_on file meta p.path (slice_get p.elements i) (step_at r s i)) page)

  -- only pages that are nodes lead anywhere
  pub record LeadsFrom (p : Site) : Type 0 where
    pub s : PageSpot
    pub node : Node
    pub at : p.spot ≡ At_page s
    pub page : node_at file meta s.number ≡ Ok node
    pub form : IsLeafPage p s node ⊎ IsBranchPage p s node

  by_spot : (p t : Site) (i : ℕ) (spot : Spot) → IsTidy file meta p → p.spot ≡ spot → step_site file meta p i ≡ Some t → LeadsFrom p
  by_spot p t i spot tidy at is = grind (arith, on_page)

  pub leads_from : (p t : Site) (i : ℕ) → IsTidy file meta p → step_site file meta p i ≡ Some t → LeadsFrom p
  leads_from p t i tidy is = by_spot p t i p.spot tidy refl is

  -- tidy sites lead to tidy sites
  pub tidy_step : (p t : Site) (i : ℕ) → IsTidy file meta p → step_site file meta p i ≡ Some t → IsTidy file meta t
  tidy_step p t i tidy is = grind (arith, leads_from)

  pub tidy_root : IsTidy file meta (root_site file meta)
  tidy_root = refl
