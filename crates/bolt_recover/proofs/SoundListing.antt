-- If nothing is lost, each way is kept, and what a path holds is an element at a way.
use Rattle.std.proofs.Common.{◌≡◌, ◌∙◌, ◌⊎◌, inl, inr, ℕ, suc, Bool, true, false, IsTrue, eqb-true, List, [], ◌∷◌, ◌++◌, Option, Some, None, Result}
use Rattle.std.proofs.Common.{Ok, Err, slice_get, refl, sym, ap, subst, append_assoc, arith}
use Rattle.bolt_recover.proofs.Words.{At_inline, At_page, cases_Bool, child_in, child_of, child_spot, Contains, contains_at, Entry, Has}
use Rattle.bolt_recover.proofs.Words.{HasSoundTrees, head_root, Holds, inline_elements, Inline_page, IsEntry, IsListing, IsRecovered}
use Rattle.bolt_recover.proofs.Words.{IsRecoveredMember, Item, item_of, way_kept, Key, leads, leads_none, leaf_node_at, LeafElement, leaves_of}
use Rattle.bolt_recover.proofs.Words.{Member, Meta, Node, node_at, Nodes, none-some, page_at, PageSpot, Path, Site, site_at, reached, Root_page}
use Rattle.bolt_recover.proofs.Words.{root_site, root_spot, same_Some, ShowsEntry, Spot, Start, start_of, step_site, upper_from, SurveyedWay}
use Rattle.bolt_recover.proofs.{SiteFacts.site_further, SiteFacts.slice_of, SiteFacts.spot_is, MembersInBuckets.path_holds}
use Rattle.bolt_recover.proofs.{MembersInBuckets.shows_entry, MembersInBuckets.well_at}
use Rattle.bolt_recover.proofs.{SiteSteps.IsBranchPage, SiteSteps.IsLeafPage, SiteSteps.IsTidy, SiteSteps.IsTidyAt, SiteSteps.bucket_site}
use Rattle.bolt_recover.proofs.{SiteSteps.on_page, KeptWays.all_kept, KeptWays.none_lost}
use Rattle.bolt_tree.proofs.Exports.{flat}

module _ (file : List ℕ) (meta : Meta) where
  abbrev nodes : Nodes
  nodes = node_at file meta

  -- a bucket begins at a way with this site; an inline one is in a leaf
  abbrev AtStart : Start → Site → Type 0
  AtStart (Root_page r) p = p.spot ≡ At_page (root_spot r)
  AtStart (Inline_page own) p = (p.elements ≡ own)
      × ((n : ℕ) × (outer : LeafElement) × ShowsEntry file meta n outer × IsTrue outer.is_bucket × (head_root outer.value ≡ 0)
      × (own ≡ inline_elements outer.value))

  abbrev IsOnPage : Spot → Type 0
  IsOnPage (At_page s) = Unit {0}
  IsOnPage (At_inline host inner) = ⊥

  record IsThere (path : Path) (e : LeafElement) : Type 0 where
    way : List ℕ
    site : Site
    i : ℕ
    at : site_at file meta way ≡ Some site
    same : site.path ≡ path
    get : slice_get site.elements i ≡ Some e
    has : Contains site.elements e
    on : IsOnPage site.spot ⊎ (e.is_bucket ≡ false)

  -- a child of a branch
  abbrev HasChild : Site → ℕ → ℕ → Type 0
  HasChild p i child = (t : Site) × (u : PageSpot) × (step_site file meta p i ≡ Some t) × (t.spot ≡ At_page u) × (u.number ≡ child) × (t.path ≡ p.path)

  child_step : (p : Site) (s : PageSpot) (i child : ℕ) → IsTidy file meta p → p.spot ≡ At_page s → child_in (nodes s.number) i ≡ Some child
      → HasChild p i child
  child_step p s i child tidy at is = by (nodes s.number) refl
    where
      on_entry : (node : Node) (o : Option Entry) → IsBranchPage file meta p s node → slice_get node.entries i ≡ o → child_of false o ≡ Some child
          → HasChild p i child
      on_entry node None branch get there = absurd (cc)
      on_entry node (Some x) branch get there =
          (_, child_spot s x (upper_from (slice_get node.entries (suc i)) s.upper), branch.to i x get, refl, same_Some x.child child there, refl)

      on_form : (node : Node) → IsLeafPage file meta p s node ⊎ IsBranchPage file meta p s node
          → child_of node.is_leaf (slice_get node.entries i) ≡ Some child → HasChild p i child
      on_form node (inl leaf) there = absurd (none-some child (sym (ap (λ (b : Bool). child_of b (slice_get node.entries i)) leaf.leaf) ∙ there))
      on_form node (inr branch) there =
          on_entry node (slice_get node.entries i) branch refl (sym (ap (λ (b : Bool). child_of b (slice_get node.entries i)) branch.branch) ∙ there)

      by : (r : Result Node ℕ) → nodes s.number ≡ r → HasChild p i child
      by (Err fault) page = absurd (none-some child (sym (ap (λ (r : Result Node ℕ). child_in r i) page) ∙ is))
      by (Ok node) page = on_form node (on_page file meta p s node tidy at page) (sym (ap (λ (r : Result Node ℕ). child_in r i) page) ∙ is)

  -- an address is a way on
  abbrev HasPage : Path → ℕ → Type 0
  HasPage path n = (way : List ℕ) × (p : Site) × (s : PageSpot) × (site_at file meta way ≡ Some p) × (p.spot ≡ At_page s) × (s.number ≡ n) × (p.path ≡ path)

  tidy_page : (way : List ℕ) (p : Site) (s : PageSpot) → site_at file meta way ≡ Some p → p.spot ≡ At_page s
      → IsTidyAt file meta p.elements (At_page s)
  tidy_page way p s at is = grind (arith, well_at)

  down : (address way : List ℕ) (p : Site) (s : PageSpot) (n : ℕ) → site_at file meta way ≡ Some p → p.spot ≡ At_page s
      → leads nodes (Some s.number) address ≡ Some n → HasPage p.path n
  down [] way p s n at is lead = (way, p, s, at, is, same_Some s.number n lead, refl)
  down (i ∷ address) way p s n at is lead = by (child_in (nodes s.number) i) refl (λ w q t there stands onward. down address w q t n there stands onward)
    where
      by : (o : Option ℕ) → child_in (nodes s.number) i ≡ o
          → ((w : List ℕ) (q : Site) (t : PageSpot) → site_at file meta w ≡ Some q → q.spot ≡ At_page t → leads nodes (Some t.number) address ≡ Some n
          → HasPage q.path n) → HasPage p.path n
      by None none onward = absurd (let gone : None ≡ Some n = sym (ap (λ (o : Option ℕ). leads nodes o address) none ∙ leads_none nodes address) ∙ lead in cc)
      by (Some child) there onward =
          let (t, u, next, spot, number, path) = child_step p s i child (well_at file meta way p at).1 is there in
          let (w, q, v, found, stands, same, named) = onward (way ++ i ∷ []) t u (site_further file meta way i p at ∙ next) spot
          (ap (λ (x : ℕ). leads nodes (Some x) address) number ∙ ap (λ (o : Option ℕ). leads nodes o address) (sym there) ∙ lead) in
          (w, q, v, found, stands, same, named ∙ path)

  -- an entry of a bucket is at a way
  entry_there : (from : Start) (way : List ℕ) (p : Site) (e : LeafElement) → site_at file meta way ≡ Some p → AtStart from p
      → IsEntry file meta from e → IsThere p.path e
  entry_there (Inline_page own) way p e at (elements, inner) is =
      let has = subst (λ (xs : List LeafElement). Contains xs e) (sym elements) is in
      let (i, lt, get) = slice_of p.elements e has in
      let (n, outer, shows, bucket, root, same) = inner in
      record {
        way = way;
        site = p;
        i = i;
        at = at;
        same = refl;
        get = get;
        has = has;
        on = inr (flat file meta n outer e shows bucket root (subst (λ (xs : List LeafElement). Contains xs e) same is));
      }
  entry_there (Root_page r) way p e at spot (address, n, lead, (view, page, leaf, is)) =
      let (w, q, s, found, stands, number, named) = down address way p (root_spot r) n at spot lead in
      let elements : q.elements ≡ view.leaves = tidy_page w q s found stands ∙ ap (λ (m : ℕ). leaves_of (page_at file meta m)) number ∙ ap leaves_of page in
      let has = subst (λ (xs : List LeafElement). Contains xs e) (sym elements) is in
      let (i, lt, get) = slice_of q.elements e has in
      record { way = w; site = q; i = i; at = found; same = named; get = get; has = has; on = inl (subst IsOnPage (sym stands) tt) }

  -- a bucket among the entries begins one step further
  bucket_starts : (path : Path) (s : PageSpot) (e : LeafElement) (n : ℕ) → e.is_bucket ≡ true → ShowsEntry file meta n e
      → AtStart (start_of e.value) (bucket_site file meta path s e)
  bucket_starts path s e n bucket shows = grind (arith, cases_Bool, eqb-true)

  bucket_step : (p : Site) (spot : Spot) (i : ℕ) (e : LeafElement) → IsTidy file meta p → p.spot ≡ spot → slice_get p.elements i ≡ Some e
      → e.is_bucket ≡ true → IsOnPage spot
      → (t : Site) × (step_site file meta p i ≡ Some t) × AtStart (start_of e.value) t × (t.path ≡ p.path ++ e.key ∷ [])
  bucket_step p (At_inline host inner) i e tidy at get bucket on = absurd on
  bucket_step p (At_page s) i e tidy at get bucket on =
      let has : Contains (leaves_of (page_at file meta s.number)) e =
      subst (λ (xs : List LeafElement). Contains xs e) (subst (IsTidyAt file meta p.elements) at tidy) (contains_at p.elements i e get) in
      let shows = shows_entry file meta s.number e has in
      let (view, page, leaf, inside) = shows in
      elim (on_page file meta p s _ tidy at (leaf_node_at file meta s.number view page leaf)) [
        | inl form ↦ (bucket_site file meta p.path s e, form.to i e get bucket, bucket_starts p.path s e s.number bucket shows, refl)
        | inr branch ↦ absurd (none-some e (ap (λ (xs : List LeafElement). slice_get xs i) (sym branch.none) ∙ get))
      ]

  module _ (survey : List SurveyedWay) (all : (way : List ℕ) (s : Spot) → reached nodes meta.root way ≡ Some s → Has survey (way_kept way)) where
    member_there : (path full : Path) (e : LeafElement) (item : Item) → IsThere path e → full ≡ path ++ e.key ∷ [] → item ≡ item_of e
        → IsRecoveredMember file meta survey full item
    member_there path full e item there named is = grind (arith, spot_is)

    not_value : (b : Bool) → b ≡ true → b ≡ false → ⊥
    not_value b e f = cc

    start_there : (path : Path) (e : LeafElement) → IsThere path e → e.is_bucket ≡ true
        → (way : List ℕ) × (t : Site) × (site_at file meta way ≡ Some t) × AtStart (start_of e.value) t × (t.path ≡ path ++ e.key ∷ [])
    start_there path e there bucket =
        elim there.on [
          | inr value ↦ absurd (not_value e.is_bucket bucket value)
          | inl on ↦
              let tidy = (well_at file meta there.way there.site there.at).1 in
              let (t, step, begins, named) = bucket_step there.site there.site.spot there.i e tidy refl there.get bucket on in (
                there.way ++ there.i ∷ [],
                t,
                site_further file meta there.way there.i there.site there.at ∙ step,
                begins,
                named ∙ ap (λ (q : Path). q ++ e.key ∷ []) there.same,
              )
        ]

    member_held : (path front : Path) (from : Start) (way : List ℕ) (p : Site) (item : Item) → site_at file meta way ≡ Some p → AtStart from p
        → p.path ≡ front → Holds (IsEntry file meta) from path item
        → IsRecoveredMember file meta survey (front ++ path) item
    member_held [] front from way p item at begins named held = absurd held
    member_held (key ∷ []) front from way p item at begins named (e, is, same, item_is) =
        let there = entry_there from way p e at begins is in
        member_there p.path (front ++ key ∷ []) e item there (ap (λ (q : Path). q ++ key ∷ []) (sym named) ∙ ap (λ (k : Key). p.path ++ k ∷ []) (sym same))
        (sym item_is)
    member_held (key ∷ next ∷ path) front from way p item at begins named (e, is, same, bucket, more) =
        let there = entry_there from way p e at begins is in
        let (w, t, found, starts, path_is) = start_there p.path e there bucket in
        let here : t.path ≡ front ++ key ∷ [] = path_is ∙ ap (λ (q : Path). q ++ e.key ∷ []) named ∙ ap (λ (k : Key). front ++ k ∷ []) same in
        subst (λ (q : Path). IsRecoveredMember file meta survey q item) (append_assoc front (key ∷ []) (next ∷ path))
        (member_held (next ∷ path) (front ++ key ∷ []) (start_of e.value) w t item found starts here more)

-- the recovered listing of sound trees is their listing
pub sound_listing : (file : List ℕ) (meta : Meta) (listing : List Member) → HasSoundTrees file meta → IsRecovered file meta listing
    → IsListing file meta listing
sound_listing file meta listing trees recovered =
    let all = all_kept file meta recovered.survey recovered.surveys (none_lost file meta recovered.survey trees recovered.surveys) in
    record {
      rises = recovered.rises;
      exact = λ path item. (
        λ has. path_holds file meta recovered.survey path item ((recovered.exact path item).0 has),
        λ holds. (recovered.exact path item).1
            (member_held file meta recovered.survey all path [] (Root_page meta.root) [] (root_site file meta) item refl refl refl holds),
      );
    }
