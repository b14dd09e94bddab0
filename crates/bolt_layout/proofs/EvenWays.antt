-- Ways through even pages: each leaf is at the depth of the first leaf of its bucket, each page below a branch begins with the key of its entry,
-- and no inline page has a number or a gap.
use Rattle.std.proofs.Common.{◌≡◌, ◌∙◌, ◌==◌, ℕ, zero, suc, ◌+◌, ◌≤◌, Bool, true, false, List, [], ◌∷◌, map, Option, Some, None, Result, Ok, ap, cond}
use Rattle.std.proofs.Common.{refl, slice_get, subst, sym, arith}
use Rattle.std.proofs.lemmas.Option.{none-some, same_Some, slice_get-map}
use Rattle.std.specs.Option.{option_map}
use Rattle.std.proofs.lemmas.Bool.{true≢false}
use Rattle.bolt_lemmas.proofs.Exports.{all_get}
use Rattle.bolt_layout.proofs.Words.{AllByRecursion, At_inline, At_page, Entry, follow, head_root, inline_page, Key, leaf_entry, LeafElement, Meta}
use Rattle.bolt_layout.proofs.Words.{Node, node_at, Nodes, page_at, PageSpot, PageView, reached, root_spot, Spot}
use Rattle.bolt_layout.proofs.EvenPages.{BeginsWith, IsEven, IsEvenKid, IsNeatElement, even_depth}
use Rattle.bolt_check.proofs.Exports.{follow_some, child_leaves, leaves_along, leaves_same, own_leaves, branch_node, tree_page}
use Rattle.bolt_check.specs.{BboltFindings.first_leaf_depth, BboltFindings.leaves_at, Nodes.branch_entry, Ways.child_spot, Ways.step, Ways.step_entry}
use Rattle.bolt_check.specs.{Ways.upper_from}
use Rattle.bolt_format.specs.declared.header.Kind.TheVariants as kind

-- a page at its depth, by that of the first leaf of its bucket
pub record IsEvenPage (nodes : Nodes) (leaves : ℕ) (s : PageSpot) : Type 0 where
  pub height : ℕ
  pub even : IsEven nodes height s.number
  pub deep : s.depth + height ≡ leaves
  pub low : 1 ≤ s.depth
  pub begins : (key : Key) → s.lower ≡ Some key → BeginsWith nodes s.number key

abbrev pub IsEvenSpot : Nodes → (leaves : ℕ) → Spot → Type 0
IsEvenSpot nodes leaves (At_page s) = IsEvenPage nodes leaves s
IsEvenSpot nodes leaves (At_inline host inner) = (inner.number ≡ 0) × (inner.gap ≡ None)

abbrev ok : Node → Result Node ℕ
ok node = Ok node

pub same_node : (a b : Node) → ok a ≡ ok b → a ≡ b
same_node a b e = cc

module _ (file : List ℕ) (meta : Meta) where
  abbrev nodes : Nodes
  nodes = node_at file meta

  -- a leaf is at the depth of the first one
  pub leaf_is_first : (s : PageSpot) (node : Node) (leaves : ℕ) → nodes s.number ≡ Ok node → node.is_leaf ≡ true → IsEvenPage nodes leaves s
      → s.depth ≡ leaves
  leaf_is_first s node leaves at leaf stands = by stands.height stands.even stands.deep
    where
      by : (height : ℕ) → IsEven nodes height s.number → s.depth + height ≡ leaves → s.depth ≡ leaves
      by zero even deep = omega (arith, deep)
      by (suc height) (other, is, branch, some, kids) deep =
          absurd (true≢false (sym leaf ∙ (ap (λ (n : Node). n.is_leaf) (same_node node other (sym at ∙ is)) ∙ branch)))

  -- ---- a step

  branch_step : (s : PageSpot) (view : PageView) (i : ℕ) (t : Spot) (next : Option Entry) (leaves : ℕ) → nodes s.number ≡ Ok (branch_node view)
      → IsEvenPage nodes leaves s
      → step_entry false s (slice_get (map branch_entry view.branches) i) next ≡ Some t → IsEvenSpot nodes (own_leaves nodes leaves t) t
  branch_step s view i t next leaves node stands e = by (slice_get (map branch_entry view.branches) i) refl e
    where
      kid : (height : ℕ) (x : Entry) → IsEvenKid nodes height x → s.depth + suc height ≡ leaves
          → Some (At_page (child_spot s x (upper_from next s.upper))) ≡ Some t
          → IsEvenSpot nodes (own_leaves nodes leaves t) t
      kid height x even deep led =
          let k = child_spot s x (upper_from next s.upper) in
          let stays = child_leaves nodes leaves k (let low = stands.low in omega (arith, low)) in
          let here : IsEvenPage nodes (own_leaves nodes leaves (At_page k)) k = record {
            height = height;
            even = even.0;
            deep = let sum : suc s.depth + height ≡ leaves = omega (arith, deep) in sum ∙ sym stays;
            low = omega arith;
            begins = λ key is. subst (BeginsWith nodes x.child) (same_key x.key key is) even.1;
          } in
          subst (λ (u : Spot). IsEvenSpot nodes (own_leaves nodes leaves u) u) (same_Some (At_page k) t led) here
        where
          same_key : (a b : Key) → ◌≡◌ {A = Option Key} (Some a) (Some b) → a ≡ b
          same_key a b e = cc

      by_height : (height : ℕ) → IsEven nodes height s.number → s.depth + height ≡ leaves → (x : Entry)
          → slice_get (map branch_entry view.branches) i ≡ Some x
          → Some (At_page (child_spot s x (upper_from next s.upper))) ≡ Some t → IsEvenSpot nodes (own_leaves nodes leaves t) t
      by_height zero (other, is, leaf) deep x at led =
          absurd (true≢false (sym leaf ∙ ap (λ (n : Node). n.is_leaf) (same_node other (branch_node view) (sym is ∙ node))))
      by_height (suc height) (other, is, branch, some, kids) deep x at led =
          let same = same_node other (branch_node view) (sym is ∙ node) in
          kid height x (all_get (IsEvenKid nodes height) (map branch_entry view.branches) i x
          (subst (λ (n : Node). AllByRecursion (IsEvenKid nodes height) n.entries) same kids) at) deep led

      by : (o : Option Entry) → slice_get (map branch_entry view.branches) i ≡ o → step_entry false s o next ≡ Some t
          → IsEvenSpot nodes (own_leaves nodes leaves t) t
      by None at led = absurd (none-some t led)
      by (Some x) at led = by_height stands.height stands.even stands.deep x at led

  bucket_step : (host : ℕ) (e : LeafElement) (t : Spot) (leaves : ℕ) → IsNeatElement nodes e → (b c : Bool) → e.is_bucket ≡ b
      → (head_root e.value == 0) ≡ c
      → cond b (Some (cond c (At_inline host (inline_page e.value)) (At_page (root_spot (head_root e.value))))) None ≡ Some t
      → IsEvenSpot nodes (own_leaves nodes leaves t) t
  bucket_step host e t leaves neat h c bucket root led = grind (arith, none-some, same_Some, even_depth)

  leaf_step : (s : PageSpot) (view : PageView) (i : ℕ) (t : Spot) (next : Option Entry) (leaves : ℕ)
      → AllByRecursion (IsNeatElement nodes) view.leaves
      → step_entry true s (slice_get (map leaf_entry view.leaves) i) next ≡ Some t → IsEvenSpot nodes (own_leaves nodes leaves t) t
  leaf_step s view i t next leaves neat e =
      by (slice_get view.leaves i) refl (subst (λ (x : Option Entry). step_entry true s x next ≡ Some t) (slice_get-map leaf_entry view.leaves i) e)
    where
      by : (o : Option LeafElement) → slice_get view.leaves i ≡ o → step_entry true s (option_map leaf_entry o) next ≡ Some t
          → IsEvenSpot nodes (own_leaves nodes leaves t) t
      by None at led = absurd (none-some t led)
      by (Some x) at led =
          bucket_step s.number x t leaves (all_get (IsNeatElement nodes) view.leaves i x neat at) x.is_bucket (head_root x.value == 0) refl refl led

  -- the page of a spot is good and, if it is a leaf, its buckets are neat
  pub record IsNeatSpot (s : Spot) : Type 0 where
    pub good : (p : PageSpot) → s ≡ At_page p → (node : Node) × (nodes p.number ≡ Ok node)
    pub neat : (p : PageSpot) (view : PageView) → s ≡ At_page p → page_at file meta p.number ≡ Some view → view.kind ≡ kind.Leaf
        → AllByRecursion (IsNeatElement nodes) view.leaves

  step_even : (s : Spot) (i : ℕ) (t : Spot) (leaves : ℕ) → IsNeatSpot s → IsEvenSpot nodes leaves s → step nodes (Some s) i ≡ Some t
      → IsEvenSpot nodes (own_leaves nodes leaves t) t
  step_even (At_inline host inner) i t leaves is stands led = absurd (none-some t led)
  step_even (At_page s) i t leaves is stands led = grind (arith, tree_page, leaf_step, branch_step)

  -- ---- along a way

  along : (here : Spot) (above : ℕ) (way : List ℕ) (t : Spot) → ((v : List ℕ) (u : Spot) → follow nodes (Some here) v ≡ Some u → IsNeatSpot u)
      → IsEvenSpot nodes (own_leaves nodes above here) here → follow nodes (Some here) way ≡ Some t
      → IsEvenSpot nodes (leaves_along nodes above (Some here) way) t
  along here above [] t neat stands e = subst (IsEvenSpot nodes (own_leaves nodes above here)) (same_Some here t e) stands
  along here above (i ∷ way) t neat stands e =
      let (next, is) = follow_some nodes (step nodes (Some here) i) way t e in
      let on = step_even here i next (own_leaves nodes above here) (neat [] here refl) stands is in
      subst (λ (o : Option Spot). IsEvenSpot nodes (leaves_along nodes (own_leaves nodes above here) o way) t) (sym is)
      (along next (own_leaves nodes above here) way t (λ v u f. neat (i ∷ v) u (ap (λ (o : Option Spot). follow nodes o v) is ∙ f)) on
      (ap (λ (o : Option Spot). follow nodes o way) (sym is) ∙ e))

  root_even : (height : ℕ) → height ≤ 63 → IsEven nodes height meta.root
      → IsEvenPage nodes (first_leaf_depth nodes 63 meta.root) (root_spot meta.root)
  root_even height low even = grind (arith, even_depth, none-some)

  -- from the root page of the file
  pub even_by : (height : ℕ) → height ≤ 63 → IsEven nodes height meta.root
      → ((way : List ℕ) (t : Spot) → reached nodes meta.root way ≡ Some t → IsNeatSpot t)
      → (way : List ℕ) (t : Spot) → reached nodes meta.root way ≡ Some t → IsEvenSpot nodes (leaves_at nodes meta.root way (Some t)) t
  even_by height low even neat way (At_inline host inner) e =
      along (At_page (root_spot meta.root)) 0 way (At_inline host inner) neat (root_even height low even) e
  even_by height low even neat way (At_page t) e =
      subst (λ (leaves : ℕ). IsEvenPage nodes leaves t) (leaves_same nodes meta.root way t e)
      (along (At_page (root_spot meta.root)) 0 way (At_page t) neat (root_even height low even) e)
