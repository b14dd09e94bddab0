-- Which spots are still to be read: ways lead to each of them, and all pages below them are good, of which fewer are left after each step.
use Rattle.std.proofs.Common.{◌≡◌, ◌∙◌, ◌&&◌, ℕ, ◌+◌, ◌≤◌, inl, inr, true, List, [], ◌∷◌, ◌++◌, Some, Result, Ok, Err, ap, not, refl, subst, sum_by}
use Rattle.std.proofs.Common.{arith}
use Rattle.std.proofs.lemmas.List.Sums.{sum_by-append}
use Rattle.bolt_lemmas.proofs.Exports.{has_split}
use Rattle.bolt_check.proofs.Words.{InlinePage, At_inline, At_page, forest, Has, HasSoundTrees, kids, Meta, Node, node_at, Nodes, PageSpot, places}
use Rattle.bolt_check.proofs.Words.{props, root_spot, somes, Spot, sum_by-cons, ∥∥₁_elim}
use Rattle.bolt_check.proofs.{Pendings.unread_push, Forest.inline_visits, Forest.lift, Forest.page_visits, Forest.root_visits}
use Rattle.bolt_check.proofs.TourSums.{bucket_sum, enough_kids, enough_node, pages_append, pages_of, pages_of_kids, weight_kids}
use Rattle.bolt_check.proofs.UnreadWays.{spots_in, spots_kids}
use Rattle.bolt_check.specs.{Subtrees.Enough, Subtrees.kid_pages, Subtrees.weight, Ways.reached}
use Rattle.bolt_check.specs.Private.Unread.{IsReadable, Unread, tagged, most_kids, page_leaves, unread_view, unread_kids, unread_of}
use Rattle.bolt_check.specs.declared.for_bbolt.UnreadSpot.{UnreadSpot}

-- each spot is one that a way leads to, and so many steps are enough below each page
pub record AreReached (nodes : Nodes) (root steps : ℕ) (spots : List Spot) : Type 0 where
  pub from : (way : List ℕ) (t : Spot) → forest nodes spots way ≡ Some t → (v : List ℕ) × (reached nodes root v ≡ Some t)
  pub good : (n : ℕ) → Has (pages_of spots) n → Enough nodes steps n

-- how much is left to be read below these spots: more than its elements for each page
abbrev pub share : ℕ → ℕ
share n = 65536

abbrev pub left_below : Nodes → (steps : ℕ) → List Spot → ℕ
left_below nodes steps spots = sum_by (weight nodes share steps) (pages_of spots)

module _ (nodes : Nodes) (root steps : ℕ) where
  -- the first spot can be read, if each way leads to no page that is too deep
  pub first_readable : ((way : List ℕ) (s : PageSpot) → reached nodes root way ≡ Some (At_page s) → s.depth ≤ 64) → (spot : Spot) (rest : List Spot)
      → AreReached nodes root steps (spot ∷ rest) → IsReadable nodes steps spot
  first_readable shallow (At_page s) rest r = let (v, led) = r.from (0 ∷ []) (At_page s) refl in (shallow v s led, r.good s.number (inl refl))
  first_readable shallow (At_inline host inner) rest r = tt

  module _ (s : PageSpot) (node : Node) (page : nodes s.number ≡ Ok node) (rest : List Spot) where
    abbrev kid_spots : List Spot
    kid_spots = somes (places node.is_leaf s node.entries)

    pages_are : pages_of (kid_spots ++ rest) ≡ kid_pages node.is_leaf node.entries ++ pages_of rest
    pages_are = pages_append kid_spots rest ∙ ap (λ (l : List ℕ). l ++ pages_of rest) (pages_of_kids node.is_leaf s node.entries)

    page_good : AreReached nodes root steps (At_page s ∷ rest) → (n : ℕ) → Has (pages_of (kid_spots ++ rest)) n → Enough nodes steps n
    page_good r n h =
        elim (has_split (kid_pages node.is_leaf node.entries) (pages_of rest) n (subst (λ (l : List ℕ). Has l n) pages_are h)) [
          | inl i ↦ enough_kids nodes steps s.number node page (r.good s.number (inl refl)) n i
          | inr i ↦ r.good n (inr i)
        ]

    pub page_reached : AreReached nodes root steps (At_page s ∷ rest) → AreReached nodes root steps (kid_spots ++ rest)
    page_reached r = record {
      from = λ way t e. r.from (lift (places node.is_leaf s node.entries) way) t ((page_visits nodes s node rest page).same way t e);
      good = page_good r;
    }

    pub page_left : Enough nodes steps s.number → left_below nodes steps (kid_spots ++ rest) + 65536 ≡ left_below nodes steps (At_page s ∷ rest)
    page_left enough =
        let w = weight nodes share steps in
        let here = weight_kids nodes share steps s.number node page enough in
        let both = ap (sum_by w) pages_are ∙ sum_by-append w (kid_pages node.is_leaf node.entries) (pages_of rest) in
        let whole = sum_by-cons w s.number (pages_of rest) in
        omega (arith, here, both, whole)

  pub inline_reached : (host : ℕ) (inner : InlinePage) (rest : List Spot) → AreReached nodes root steps (At_inline host inner ∷ rest)
      → AreReached nodes root steps rest
  inline_reached host inner rest r = grind (arith, inline_visits nodes host inner rest)

  -- the root page of the file
  pub root_reached : Enough nodes steps root → AreReached nodes root steps (At_page (root_spot root) ∷ [])
  root_reached enough = grind (arith, root_visits nodes (At_page (root_spot root)))

  -- after a step
  pub step_reached : (u : Unread) (rest after : List Unread) → after ≡ unread_kids nodes u ++ rest → AreReached nodes root steps (spots_in (u ∷ rest))
      → AreReached nodes root steps (spots_in after)
  unfolding kids
  step_reached u rest after e r = by u.spot refl (rw e refl)
    where
      by : (spot : Spot) → u.spot ≡ spot → after ≡ unread_kids nodes u ++ rest → AreReached nodes root steps (spots_in after)
      by (At_page s) is same =
          let (node, page) = enough_node nodes steps s.number ((rw is at r).good s.number (inl refl)) in
          rw (same, is, page, spots_kids (u.in_root && not node.is_leaf) (page_leaves nodes u.above s) rest (somes (places node.is_leaf s node.entries)))
          (page_reached s node page (spots_in rest) (rw is at r))
      by (At_inline host inner) is same = rw (same, is) (inline_reached host inner (spots_in rest) (rw is at r))

  -- less is left
  pub step_left : (u : Unread) (rest after : List Unread) → after ≡ unread_kids nodes u ++ rest → AreReached nodes root steps (spots_in (u ∷ rest))
      → left_below nodes steps (spots_in after) + most_kids u.spot ≤ left_below nodes steps (spots_in (u ∷ rest))
  unfolding kids
  step_left u rest after e r = by u.spot refl
    where
      by : (spot : Spot) → u.spot ≡ spot → left_below nodes steps (spots_in after) + most_kids u.spot ≤ left_below nodes steps (spots_in (u ∷ rest))
      by (At_page s) is =
          let (node, page) = enough_node nodes steps s.number ((rw is at r).good s.number (inl refl)) in
          let left = page_left s node page (spots_in rest) ((rw is at r).good s.number (inl refl)) in
          rw (e, is, page, spots_kids (u.in_root && not node.is_leaf) (page_leaves nodes u.above s) rest (somes (places node.is_leaf s node.entries)))
          (omega (arith, left))
      by (At_inline host inner) is = rw (e, is) (omega arith)

-- a good page has a node
pub node_of_page : (r : Result Node ℕ) → ∥ ((node : Node) × (r ≡ Ok node)) ∥₁ → (node : Node) × (r ≡ Ok node)
node_of_page (Ok node) good = (node, refl)
node_of_page (Err fault) good = absurd (∥∥₁_elim good (Prim.hlevel props) (λ (node, e). cc))

-- at the start the root page alone is left
pub first_reached : (file : List ℕ) (meta : Meta) → HasSoundTrees file meta
    → AreReached (node_at file meta) meta.root meta.high_water (spots_in (tagged true 0 (At_page (root_spot meta.root)) ∷ []))
first_reached file meta trees = root_reached (node_at file meta) meta.root meta.high_water (bucket_sum file meta trees [] meta.root refl (λ n. 0)).0

-- the topmost was taken away
pub unread_pop : (items rest : List UnreadSpot) (u : UnreadSpot) → items ≡ rest ++ u ∷ [] → unread_of items ≡ unread_view u ∷ unread_of rest
unread_pop items rest u e = rw e (unread_push rest u)
