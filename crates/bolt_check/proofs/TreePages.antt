-- Pages that ways lead to: each is a leaf or a branch, as bolt_format's page and as the rules' node; what its elements lead to.
use Rattle.std.proofs.Common.{rules, ◌≡◌, ◌==◌, ℕ, suc, ◌≤◌, List, [], ◌∷◌, ◌++◌, true, false, Option, Some, None, Result, Ok, slice_get, map, refl}
use Rattle.std.proofs.Common.{sym, ap, ◌∙◌, arith, subst}
use Rattle.std.proofs.lemmas.Option.{slice_get_cases}
use Rattle.bolt_check.proofs.Words.{inline_page, At_inline, At_page, branch_entry, BranchElement, bucket_spot, child_at, child_in, child_spot, Entry}
use Rattle.bolt_check.proofs.Words.{HasSoundTrees, head_root, IsOnWay, keys_of, Kind, leads, leaf_entry, LeafElement, Meta, Node, node_at, node_of}
use Rattle.bolt_check.proofs.Words.{node_seen, Nodes, none-some, option_map, page_at, page_fault, PageSpot, PageView, root_spot, slice_get-map, Spot}
use Rattle.bolt_check.proofs.Words.{step, upper_from}
use Rattle.bolt_format.specs.declared.header.Kind.TheVariants as kind
use Rattle.bolt_check.specs.Ways.{reached}
use Rattle.bolt_check.proofs.{HighWaterLemmas.node_page, WayFacts.follow_append, WayFacts.key_at, WayFacts.leads_some, WayFacts.step_child}

abbrev pub leaf_node : PageView → Node
leaf_node view = record { is_leaf = true; overflow = view.overflow; entries = map leaf_entry view.leaves }

abbrev pub branch_node : PageView → Node
branch_node view = record { is_leaf = false; overflow = view.overflow; entries = map branch_entry view.branches }

-- a good page of the tree is a leaf or a branch
pub data IsTreePage (file : List ℕ) (meta : Meta) (number : ℕ) : Type 0 where
  a_leaf : (view : PageView) → page_at file meta number ≡ Some view → view.kind ≡ kind.Leaf → node_at file meta number ≡ Ok (leaf_node view)
      → IsTreePage file meta number
  a_branch : (view : PageView) → page_at file meta number ≡ Some view → view.kind ≡ kind.Branch → node_at file meta number ≡ Ok (branch_node view)
      → IsTreePage file meta number

-- a page as a node
pub node_is : (file : List ℕ) (meta : Meta) (number : ℕ) (view : PageView) (k : Kind) → page_at file meta number ≡ Some view → view.kind ≡ k
    → node_at file meta number ≡ node_of k view
unfolding node_at
node_is file meta number view k at is = ap (λ (o : Option PageView). node_seen o (page_fault file meta number)) at ∙ ap (λ (x : Kind). node_of x view) is

by_kind : (file : List ℕ) (meta : Meta) (number : ℕ) (view : PageView) (k : Kind) (node : Node) → page_at file meta number ≡ Some view → view.kind ≡ k
    → node_of k view ≡ Ok node
    → IsTreePage file meta number
by_kind file meta number view kind.Branch node at is e = a_branch view at is (node_is file meta number view kind.Branch at is)
by_kind file meta number view kind.Leaf node at is e = a_leaf view at is (node_is file meta number view kind.Leaf at is)
by_kind file meta number view k node at is e = absurd (cc)

pub tree_page : (file : List ℕ) (meta : Meta) (number : ℕ) (node : Node) → node_at file meta number ≡ Ok node → IsTreePage file meta number
tree_page file meta number node e =
    let (view, at, _) = node_page file meta number node e in by_kind file meta number view view.kind node at refl
    (sym (node_is file meta number view view.kind at refl) ∙ e)

-- the entry of an element
pub branch_entry_at : (elements : List BranchElement) (i : ℕ) (e : BranchElement) → slice_get elements i ≡ Some e
    → slice_get (map branch_entry elements) i ≡ Some (branch_entry e)
branch_entry_at elements i e g = slice_get-map branch_entry elements i ∙ ap (option_map branch_entry) g

pub leaf_entry_at : (elements : List LeafElement) (i : ℕ) (e : LeafElement) → slice_get elements i ≡ Some e
    → slice_get (map leaf_entry elements) i ≡ Some (leaf_entry e)
leaf_entry_at elements i e g = slice_get-map leaf_entry elements i ∙ ap (option_map leaf_entry) g

-- the key of an element, among those of the page as a node
pub branch_key : (elements : List BranchElement) (i : ℕ) (e : BranchElement) → slice_get elements i ≡ Some e
    → slice_get (keys_of (map branch_entry elements)) i ≡ Some e.key
branch_key elements i e g = key_at (map branch_entry elements) i (branch_entry e) (branch_entry_at elements i e g)

pub leaf_key : (elements : List LeafElement) (i : ℕ) (e : LeafElement) → slice_get elements i ≡ Some e
    → slice_get (keys_of (map leaf_entry elements)) i ≡ Some e.key
leaf_key elements i e g = key_at (map leaf_entry elements) i (leaf_entry e) (leaf_entry_at elements i e g)

-- where a bucket on a leaf leads
step_bucket : (nodes : Nodes) (s : PageSpot) (i : ℕ) (node : Node) (e : Entry) → nodes s.number ≡ Ok node → node.is_leaf ≡ true
    → slice_get node.entries i ≡ Some e
    → e.is_bucket ≡ true → step nodes (Some (At_page s)) i ≡ Some (bucket_spot s.number e)
step_bucket nodes s i node e q leaf g b = rw (q, leaf, g, b) refl

-- one step after a way
pub step_after : (nodes : Nodes) (root i : ℕ) (way : List ℕ) (s : Spot) (o : Option Spot) → reached nodes root way ≡ Some s
    → step nodes (Some s) i ≡ o → reached nodes root (way ++ i ∷ []) ≡ o
step_after nodes root i way s o led st = grind (arith, follow_append)

module _ (file : List ℕ) (meta : Meta) where
  -- the node of a page on a way, by its spot
  pub spot_node : (number depth : ℕ) (node : Node) (on : IsOnWay file meta number depth) → node_at file meta number ≡ Ok node
      → node_at file meta on.spot.number ≡ Ok node
  spot_node number depth node on e = ap (node_at file meta) on.is ∙ e

  -- a child of a branch
  pub on_child : (number depth i : ℕ) (view : PageView) (e : BranchElement) → IsOnWay file meta number depth
      → node_at file meta number ≡ Ok (branch_node view)
      → slice_get view.branches i ≡ Some e → IsOnWay file meta e.child (suc depth)
  on_child number depth i view e on node g =
      let entries : List Entry = map branch_entry view.branches in
      let t : PageSpot = child_spot on.spot (branch_entry e) (upper_from (slice_get entries (suc i)) on.spot.upper) in
      let st =
      step_child (node_at file meta) on.spot i (branch_node view) (branch_entry e) (spot_node number depth (branch_node view) on node) refl
      (branch_entry_at view.branches i e g) in
      record {
        way = on.way ++ i ∷ [];
        spot = t;
        led = step_after (node_at file meta) meta.root i on.way (At_page on.spot) (Some (At_page t)) on.led st;
        is = refl;
        deep = ap suc on.deep;
      }

  after_bucket : (number depth i : ℕ) (view : PageView) (e : LeafElement) (on : IsOnWay file meta number depth)
      → node_at file meta number ≡ Ok (leaf_node view)
      → slice_get view.leaves i ≡ Some e → e.is_bucket ≡ true
      → reached (node_at file meta) meta.root (on.way ++ i ∷ []) ≡ Some (bucket_spot on.spot.number (leaf_entry e))
  after_bucket number depth i view e on node g b =
      step_after (node_at file meta) meta.root i on.way (At_page on.spot) (Some (bucket_spot on.spot.number (leaf_entry e))) on.led
      (step_bucket (node_at file meta) on.spot i (leaf_node view) (leaf_entry e) (spot_node number depth (leaf_node view) on node) refl
      (leaf_entry_at view.leaves i e g) b)

  -- the root page of a bucket on a leaf
  pub on_bucket : (number depth i : ℕ) (view : PageView) (e : LeafElement) → IsOnWay file meta number depth
      → node_at file meta number ≡ Ok (leaf_node view)
      → slice_get view.leaves i ≡ Some e → e.is_bucket ≡ true → (head_root e.value == 0) ≡ false → IsOnWay file meta (head_root e.value) 1
  on_bucket number depth i view e on node g b own = record {
    way = on.way ++ i ∷ [];
    spot = root_spot (head_root e.value);
    led = after_bucket number depth i view e on node g b ∙ rw own refl;
    is = refl;
    deep = refl;
  }

  -- the inline page of a bucket on a leaf
  pub inline_reached : (number depth i : ℕ) (view : PageView) (e : LeafElement) (on : IsOnWay file meta number depth)
      → node_at file meta number ≡ Ok (leaf_node view)
      → slice_get view.leaves i ≡ Some e → e.is_bucket ≡ true → (head_root e.value == 0) ≡ true
      → reached (node_at file meta) meta.root (on.way ++ i ∷ []) ≡ Some (At_inline on.spot.number (inline_page e.value))
  inline_reached number depth i view e on node g b inline = after_bucket number depth i view e on node g b ∙ rw inline refl

  -- where the first step of an address leads
  pub leads_child : (number i : ℕ) (view : PageView) (e : BranchElement) (rest : List ℕ) → node_at file meta number ≡ Ok (branch_node view)
      → slice_get view.branches i ≡ Some e → leads (node_at file meta) (Some number) (i ∷ rest) ≡ leads (node_at file meta) (Some e.child) rest
  leads_child number i view e rest node g = grind (arith, branch_entry_at)

-- no address goes on without a step
no_step : (nodes : Nodes) (number i m : ℕ) (rest : List ℕ) → child_at nodes (Some number) i ≡ None → leads nodes (Some number) (i ∷ rest) ≡ Some m → ⊥
no_step nodes number i m rest none l = let (c, at) = leads_some nodes (child_at nodes (Some number) i) rest m l in none-some c (sym none ∙ at)

-- no address goes on from a leaf
pub leaf_ends : (nodes : Nodes) (number i m : ℕ) (view : PageView) (rest : List ℕ) → nodes number ≡ Ok (leaf_node view)
    → leads nodes (Some number) (i ∷ rest) ≡ Some m → ⊥
leaf_ends nodes number i m view rest node l = no_step nodes number i m rest (ap (λ (o : Result Node ℕ). child_in o i) node) l

-- a step of an address takes an element of a branch
pub branch_step : (nodes : Nodes) (number i m : ℕ) (view : PageView) (rest : List ℕ) → nodes number ≡ Ok (branch_node view)
    → leads nodes (Some number) (i ∷ rest) ≡ Some m
    → (e : BranchElement) × (slice_get view.branches i ≡ Some e)
branch_step nodes number i m view rest node l = search (rules, slice_get_cases, slice_get-map, no_step)

module _ (file : List ℕ) (meta : Meta) (trees : HasSoundTrees file meta) where
  pub on_way_page : (number depth : ℕ) → IsOnWay file meta number depth → IsTreePage file meta number
  on_way_page number depth on =
      let good = (trees.good on.way on.spot on.led).1 in
      let at : node_at file meta on.spot.number ≡ Ok good.0 = good.1 in
      tree_page file meta number good.0 (sym (ap (node_at file meta) on.is) ∙ at)

  pub shallow : (number depth : ℕ) → IsOnWay file meta number depth → depth ≤ 64
  shallow number depth on = let d = (trees.good on.way on.spot on.led).0 in let e = on.deep in omega (arith, d, e)

  -- the page that an address leads to
  pub on_address : (number depth n : ℕ) (address : List ℕ) → IsOnWay file meta number depth → leads (node_at file meta) (Some number) address ≡ Some n
      → (d : ℕ) × IsOnWay file meta n d
  on_address number depth n [] on l = let same : number ≡ n = cc in (depth, subst (λ (m : ℕ). IsOnWay file meta m depth) same on)
  on_address number depth n (i ∷ rest) on l = elim (on_way_page number depth on) [
    | a_leaf view at is node ↦ absurd (leaf_ends (node_at file meta) number i n view rest node l)
    | a_branch view at is node ↦ (
        let e = branch_step (node_at file meta) number i n view rest node l in
        on_address e.0.child (suc depth) n rest (on_child file meta number depth i view e.0 on node e.1)
        (sym (leads_child file meta number i view e.0 rest node e.1) ∙ l))
  ]
