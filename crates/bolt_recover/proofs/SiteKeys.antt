-- The keys of a site that is kept: they rise between its bounds, its elements have them, and each child has its bounds from them.
use Rattle.std.proofs.Common.{◌≡◌, ◌∙◌, ◌⊎◌, ℕ, suc, Bool, true, List, [], ◌∷◌, ◌++◌, Option, Some, None, slice_get, if◌then◌else◌, refl, ap, arith}
use Rattle.bolt_recover.proofs.Words.{At_inline, At_page, Finding, finding_none, finding_of, is_below, is_from, Key, key_at, key_each, key_rise}
use Rattle.bolt_recover.proofs.Words.{keys_of, keys_order_fault, KeysRise, LeafElement, lower_of, Meta, Node, node_at, none-some, option_map}
use Rattle.bolt_recover.proofs.Words.{PageSpot, Passes, Path, Site, slice_get-map, Spot, step_site, upper_of}
use Rattle.bolt_recover.proofs.SiteSteps.{IsBranchPage, IsLeafPage, IsTidy, IsTidyAt, keys_in, on_page}

-- a bucket of a leaf has a path of its own, and a child of a branch has the keys from its element to the next
abbrev pub IsInside : Site → Site → ℕ → Type 0
IsInside p t i = (e : LeafElement) × (slice_get p.elements i ≡ Some e) × (t.path ≡ p.path ++ e.key ∷ []) × (e.is_bucket ≡ true)

pub record IsChild (p t : Site) (i : ℕ) (keys : List Key) : Type 0 where
  pub path : t.path ≡ p.path
  pub none : slice_get p.elements i ≡ None
  pub key : Key
  pub at : slice_get keys i ≡ Some key
  pub lower : lower_of t.spot ≡ Some key
  pub next : (k : Key) → slice_get keys (suc i) ≡ Some k → upper_of t.spot ≡ Some k
  pub last : slice_get keys (suc i) ≡ None → upper_of t.spot ≡ upper_of p.spot

-- what the keys of a kept site are
pub record Keyed (file : List ℕ) (meta : Meta) (p : Site) (keys : List Key) : Type 0 where
  pub rise : KeysRise keys
  pub each : (j : ℕ) (q : Key) → slice_get keys j ≡ Some q → (is_from (lower_of p.spot) q ≡ true) × (is_below (upper_of p.spot) q ≡ true)
  pub own : (i : ℕ) (e : LeafElement) → slice_get p.elements i ≡ Some e → slice_get keys i ≡ Some e.key
  pub kids : (i : ℕ) (t : Site) → step_site file meta p i ≡ Some t → IsInside p t i ⊎ IsChild p t i keys

no_late : (b : Bool) (x : Finding) (o : Option ℕ) (page : ℕ) → (if b then Some x else finding_of o page) ≡ None → o ≡ None
no_late b x o page e = grind (arith, finding_none)

key_of_element : (elements : List LeafElement) (i : ℕ) (e : LeafElement) → slice_get elements i ≡ Some e → slice_get (keys_in elements) i ≡ Some e.key
key_of_element elements i e at = slice_get-map (λ (x : LeafElement). x.key) elements i ∙ ap (option_map (λ (x : LeafElement). x.key)) at

on_page_kids : (file : List ℕ) (meta : Meta) (p : Site) (s : PageSpot) (node : Node) (i : ℕ) (t : Site) → p.spot ≡ At_page s
    → IsLeafPage file meta p s node ⊎ IsBranchPage file meta p s node
    → step_site file meta p i ≡ Some t → IsInside p t i ⊎ IsChild p t i (keys_of node.entries)
on_page_kids file meta p s node i t spot h is = grind (arith, slice_get-map, key_at)

own_key : (file : List ℕ) (meta : Meta) (p : Site) (s : PageSpot) (node : Node) (i : ℕ) (e : LeafElement)
    → IsLeafPage file meta p s node ⊎ IsBranchPage file meta p s node
    → slice_get p.elements i ≡ Some e → slice_get (keys_of node.entries) i ≡ Some e.key
own_key file meta p s node i e h at = grind (arith, key_at, slice_get-map, none-some)

keyed_at : (file : List ℕ) (meta : Meta) (before : ℕ → Type 0) (spot : Spot) (path : Path) (elements : List LeafElement)
    → IsTidyAt file meta elements spot → Passes (node_at file meta) before spot
    → (keys : List Key) × Keyed file meta (record { spot = spot; path = path; elements = elements }) keys
keyed_at file meta before (At_inline host inner) path elements tidy passes =
    let none = finding_none (keys_order_fault None None None inner.keys) host passes in (inner.keys, grind (arith, key_rise, key_each, key_of_element, none))
keyed_at file meta before (At_page s) path elements tidy passes =
    let node = passes.node in
    let keys = keys_of node.entries in
    let none = no_late _ _ (keys_order_fault None s.lower s.upper keys) s.number passes.content in
    let p : Site = record { spot = At_page s; path = path; elements = elements } in
    let form = on_page file meta p s node tidy refl passes.page in (
      keys,
      record {
        rise = key_rise None s.lower s.upper keys none;
        each = λ j q at. let t = key_each None s.lower s.upper keys none j q at in (t.1, t.2);
        own = λ i e at. own_key file meta p s node i e form at;
        kids = λ i t is. on_page_kids file meta p s node i t refl form is;
      },
    )

pub keyed : (file : List ℕ) (meta : Meta) (before : ℕ → Type 0) (p : Site) → IsTidy file meta p → Passes (node_at file meta) before p.spot
    → (keys : List Key) × Keyed file meta p keys
keyed file meta before p tidy passes = keyed_at file meta before p.spot p.path p.elements tidy passes
