-- What a path holds, and what is at ways: a path holds each element at a way under it and, if all ways are kept, nothing else.
use Rattle.std.proofs.Common.{◌≡◌, ◌∙◌, inl, inr, ℕ, suc, Bool, false, List, [], ◌∷◌, ◌++◌, Option, Some, Result, slice_get, refl, sym, ap, subst}
use Rattle.std.proofs.Common.{arith}
use Rattle.bolt_recover.proofs.Words.{At_inline, At_page, cases_Bool, child_at, child_in, child_of, Contains, contains_at, Entry, follow_sites, Holds}
use Rattle.bolt_recover.proofs.Words.{Inline_page, IsEntry, IsRecoveredMember, Item, leads, LeafElement, leaves_of, Meta, Names, next_site, Node}
use Rattle.bolt_recover.proofs.Words.{node_at, Nodes, page_at, PageSpot, Path, Site, site_at, Root_page, root_site, same_Some, ShowsEntry, Spot}
use Rattle.bolt_recover.proofs.Words.{Start, start_of, step_site, SurveyedWay}
use Rattle.bolt_tree.proofs.Exports.{held_here, names_push}
use Rattle.bolt_recover.proofs.SiteSteps.{IsTidy, IsTidyAt, bucket_site, child_site, leads_from, tidy_root, tidy_step}

pub shows_entry : (file : List ℕ) (meta : Meta) (n : ℕ) (e : LeafElement) → Contains (leaves_of (page_at file meta n)) e → ShowsEntry file meta n e
unfolding page_at
shows_entry file meta n e has = grind arith

leads_further : (nodes : Nodes) (here : Option ℕ) (address : List ℕ) (i : ℕ)
    → leads nodes here (address ++ i ∷ []) ≡ child_at nodes (leads nodes here address) i
leads_further nodes here [] i = refl
leads_further nodes here (j ∷ address) i = leads_further nodes (child_at nodes here j) address i

module _ (file : List ℕ) (meta : Meta) where
  abbrev nodes : Nodes
  nodes = node_at file meta

  -- the spot and the elements lie in the bucket that begins so
  abbrev OfStart : Start → Spot → List LeafElement → Type 0
  OfStart (Root_page r) (At_page s) elements = (address : List ℕ) × (leads nodes (Some r) address ≡ Some s.number)
  OfStart (Root_page r) (At_inline host inner) elements = ⊥
  OfStart (Inline_page own) (At_page s) elements = ⊥
  OfStart (Inline_page own) (At_inline host inner) elements = own ≡ elements

  entry_at : (from : Start) (spot : Spot) (elements : List LeafElement) (e : LeafElement) → OfStart from spot elements
      → IsTidyAt file meta elements spot → Contains elements e → IsEntry file meta from e
  entry_at from spot elements e h tidy has = grind (arith, shows_entry)

  -- a site lies in the bucket that its path names
  abbrev IsNamed : Site → Type 0
  IsNamed p = (from : Start) × Names (IsEntry file meta) (Root_page meta.root) p.path from × OfStart from p.spot p.elements

  -- a bucket on a leaf
  bucket_named : (path : Path) (s : PageSpot) (e : LeafElement)
      → Names (IsEntry file meta) (Root_page meta.root) (path ++ e.key ∷ []) (start_of e.value) → IsNamed (bucket_site file meta path s e)
  bucket_named path s e names = grind (arith, cases_Bool)

  -- a child of a branch
  child_named : (from : Start) (path : Path) (s : PageSpot) (elements : List LeafElement) (x : Entry) (next : Option Entry) (i : ℕ)
      → Names (IsEntry file meta) (Root_page meta.root) path from
      → OfStart from (At_page s) elements → child_in (nodes s.number) i ≡ Some x.child → IsNamed (child_site file meta path s x next)
  child_named (Inline_page own) path s elements x next i names of child = absurd of
  child_named (Root_page r) path s elements x next i names (address, lead) child =
      (Root_page r, names, (address ++ i ∷ [], leads_further nodes (Some r) address i ∙ ap (λ (o : Option ℕ). child_at nodes o i) lead ∙ child))

  named_step : (from : Start) (p t : Site) (i : ℕ) → Names (IsEntry file meta) (Root_page meta.root) p.path from → OfStart from p.spot p.elements
      → IsTidy file meta p → step_site file meta p i ≡ Some t → IsNamed t
  named_step from p t i names of tidy is =
      let on = leads_from file meta p t i tidy is in
      elim on.form [
        | inl leaf ↦
            let (e, get, bucket, same) = leaf.from i t is in
            subst IsNamed (sym same) (bucket_named p.path on.s e
            (names_push (IsEntry file meta) (Root_page meta.root) p.path from e names
            (entry_at from p.spot p.elements e of tidy (contains_at p.elements i e get)) bucket))
        | inr branch ↦
            let (x, get, same) = branch.from i t is in
            subst IsNamed (sym same)
            (child_named from p.path on.s p.elements x (slice_get on.node.entries (suc i)) i names (subst (λ (z : Spot). OfStart from z p.elements) on.at of)
            (ap (λ (r : Result Node ℕ). child_in r i) on.page ∙ ap (λ (b : Bool). child_of b (slice_get on.node.entries i)) branch.branch
            ∙ ap (child_of false) get))
      ]

  abbrev pub IsWell : Site → Type 0
  IsWell p = IsNamed p × IsTidy file meta p

  well_next : (here : Option Site) (i : ℕ) (t : Site) → ((q : Site) → here ≡ Some q → IsWell q) → next_site file meta here i ≡ Some t → IsWell t
  well_next here i t well is = grind (arith, named_step, tidy_step)

  well_follow : (here : Option Site) (way : List ℕ) (p : Site) → ((q : Site) → here ≡ Some q → IsWell q) → follow_sites file meta here way ≡ Some p
      → IsWell p
  well_follow here [] p well is = well p is
  well_follow here (i ∷ way) p well is = well_follow (next_site file meta here i) way p (λ t next. well_next here i t well next) is

  pub well_at : (way : List ℕ) (p : Site) → site_at file meta way ≡ Some p → IsWell p
  well_at way p is =
      well_follow (Some (root_site file meta)) way p
      (λ q here. subst IsWell (same_Some (root_site file meta) q here) ((Root_page meta.root, refl, ([], refl)), tidy_root file meta)) is

  -- a path holds each recovered member
  pub path_holds : (survey : List SurveyedWay) (path : Path) (item : Item) → IsRecoveredMember file meta survey path item
      → Holds (IsEntry file meta) (Root_page meta.root) path item
  path_holds survey path item is = grind (arith, well_at, held_here, entry_at)
