-- Ways from bucket to bucket: an address inside a bucket is a way, and so is a bucket among its entries. So each bucket that a path
-- names begins at a place where a bucket of the tree does.
use Rattle.std.proofs.Common.{arith, ◌≡◌, ◌∙◌, Bool, true, false, IsTrue, ℕ, eqb, List, [], ◌∷◌, ◌++◌, map, Option, Some, Result, Ok, slice_get, refl}
use Rattle.std.proofs.Common.{sym, ap, subst}
use Rattle.bolt_tree.proofs.Words.{At_page, Contains, Entry, Inline_page, IsEntry, IsOnWay, IsStart, LeafElement, Meta, Names, Node, Nodes, PageSpot}
use Rattle.bolt_tree.proofs.Words.{Path, Root_page, ShowsEntry, Spot, Start, bucket_value, flat_inline, follow, follow_append, head_root}
use Rattle.bolt_tree.proofs.Words.{inline_elements, leads, leads_follow, leaf_entry, leaf_node_at, node_at, option_map, root_spot, slice_get-get_or}
use Rattle.bolt_tree.proofs.Words.{slice_get-map, start_of, step_at}

node_step : (t : PageSpot) (r : Result Node ℕ) (entries : List Entry) (overflow i : ℕ) (e : LeafElement)
    → r ≡ Ok (record { is_leaf = true; overflow = overflow; entries = entries })
    → slice_get entries i ≡ Some (leaf_entry e) → e.is_bucket ≡ true → eqb (head_root e.value) 0 ≡ false
    → step_at r t i ≡ Some (At_page (root_spot (head_root e.value)))
node_step t r entries overflow i e is at b page = grind arith

-- the way on from a bucket's root page to that of a bucket among its entries
pub bucket_way : (file : List ℕ) (meta : Meta) (s : PageSpot) (e : LeafElement) → IsEntry file meta (Root_page s.number) e → e.is_bucket ≡ true
    → eqb (head_root e.value) 0 ≡ false
    → (address : List ℕ) × (i : ℕ) × (follow (node_at file meta) (Some (At_page s)) (address ++ i ∷ []) ≡ Some (At_page (root_spot (head_root e.value))))
bucket_way file meta s e (address, n, lead, (view, at, k, is)) b page =
    let nodes : Nodes = node_at file meta in
    let (t, on, number) = leads_follow nodes s address n lead in
    let i = is.0 in
    let place =
    slice_get-map leaf_entry view.leaves i ∙ ap (option_map leaf_entry) (slice_get-get_or view.leaves i e is.1 ∙ ap (λ (x : LeafElement). Some x) is.2) in
    let node = ap nodes number ∙ leaf_node_at file meta n view at k in
    let last : follow nodes (Some (At_page t)) (i ∷ []) ≡ Some (At_page (root_spot (head_root e.value))) =
    node_step t (nodes t.number) (map leaf_entry view.leaves) view.overflow i e node place b page in
    (address, i, follow_append nodes (Some (At_page s)) address (i ∷ []) ∙ (ap (λ (o : Option Spot). follow nodes o (i ∷ [])) on ∙ last))

pub at_root : (value : List ℕ) → eqb (head_root value) 0 ≡ false → start_of value ≡ Root_page (head_root value)
at_root value e = rw e refl

pub in_itself : (value : List ℕ) → eqb (head_root value) 0 ≡ true → start_of value ≡ Inline_page (inline_elements value)
in_itself value e = rw e refl

-- no inline bucket has a bucket
abbrev pub IsFlat : List ℕ → Meta → Type 0
IsFlat file meta =
    (n : ℕ) (e f : LeafElement) → ShowsEntry file meta n e → IsTrue e.is_bucket → head_root e.value ≡ 0 → Contains (inline_elements e.value) f
    → f.is_bucket ≡ false

pub flat : (file : List ℕ) (meta : Meta) → IsFlat file meta
flat file meta n e f (view, at, leaf, has) bucket root inner = flat_inline e.value f (bucket_value file meta n view e at leaf has bucket) root inner

module _ (file : List ℕ) (meta : Meta) where
  -- where an address from a page on a way leads to, a way leads too
  address_way : (root depth : ℕ) (address : List ℕ) (n : ℕ) → IsOnWay file meta root depth → leads (node_at file meta) (Some root) address ≡ Some n
      → (deep : ℕ) × IsOnWay file meta n deep
  address_way root depth address n on lead =
      let nodes : Nodes = node_at file meta in
      let (t, reach, number) = leads_follow nodes on.spot address n (subst (λ (r : ℕ). leads nodes (Some r) address ≡ Some n) (sym on.is) lead) in (
        t.depth,
        record {
          way = on.way ++ address;
          spot = t;
          led = follow_append nodes (Some (At_page (root_spot meta.root))) on.way address ∙ (ap (λ (o : Option Spot). follow nodes o address) on.led ∙ reach);
          is = number;
          deep = refl;
        },
      )

  from_page : (root : ℕ) (e : LeafElement) (b : Bool) → eqb (head_root e.value) 0 ≡ b → IsOnWay file meta root 1
      → IsEntry file meta (Root_page root) e → e.is_bucket ≡ true → IsStart file meta (start_of e.value)
  from_page root e true zero_root on (address, n, lead, shows) bucket =
      let (deep, way) = address_way root 1 address n on lead in
      grind (arith, in_itself)
  from_page root e false own_root on is bucket =
      let nodes : Nodes = node_at file meta in
      let (address, i, reach) = bucket_way file meta on.spot e (subst (λ (r : ℕ). IsEntry file meta (Root_page r) e) (sym on.is) is) bucket own_root in
      subst (λ (from : Start). IsStart file meta from) (sym (at_root e.value own_root)) (record {
        way = on.way ++ (address ++ i ∷ []);
        spot = root_spot (head_root e.value);
        led =
            follow_append nodes (Some (At_page (root_spot meta.root))) on.way (address ++ i ∷ [])
            ∙ (ap (λ (o : Option Spot). follow nodes o (address ++ i ∷ [])) on.led ∙ reach);
        is = refl;
        deep = refl;
      })

  pub none_inside : (value : List ℕ) (elements : List LeafElement) (b : Bool) → eqb (head_root value) 0 ≡ b → start_of value ≡ Inline_page elements
      → (head_root value ≡ 0) × (inline_elements value ≡ elements)
  none_inside value elements b e same = grind arith

  -- a bucket among the entries of a bucket of the tree is one of the tree
  pub starts_below : (from : Start) (e : LeafElement) → IsStart file meta from → IsEntry file meta from e → e.is_bucket ≡ true
      → IsStart file meta (start_of e.value)
  starts_below (Root_page root) e on is bucket = from_page root e (eqb (head_root e.value) 0) refl on is bucket
  starts_below (Inline_page elements) e (n, depth, outer, way, shows, inner, same) is bucket =
      let (root, own) = none_inside outer.value elements (eqb (head_root outer.value) 0) refl same in
      let value : e.is_bucket ≡ false = flat file meta n outer e shows inner root (subst (λ (es : List LeafElement). Contains es e) (sym own) is) in
      absurd (let c : true ≡ false = sym bucket ∙ value in cc)

  -- and so is each that a path from there names
  pub starts_named : (from : Start) (path : Path) (bucket : Start) → IsStart file meta from → Names (IsEntry file meta) from path bucket
      → IsStart file meta bucket
  starts_named from [] bucket start same = subst (λ (s : Start). IsStart file meta s) same start
  starts_named from (key ∷ path) bucket start (e, is, own, b, names) = starts_named (start_of e.value) path bucket (starts_below from e start is b) names

  pub root_starts : IsStart file meta (Root_page meta.root)
  root_starts = record { way = []; spot = root_spot meta.root; led = refl; is = refl; deep = refl }
