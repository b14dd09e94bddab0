-- The depth of the first leaf of a bucket, which is handed down from its root page, is that at the way to the bucket's root page.
use Rattle.std.proofs.Common.{◌≡◌, ◌∙◌, ℕ, suc, ◌+◌, ◌-◌, ◌≤◌, ◌⊎◌, inl, inr, Bool, List, [], ◌∷◌, Option, Some, None, Result, Ok, Err, ap, cond}
use Rattle.std.proofs.Common.{length, refl, slice_get, sym, take, arith}
use Rattle.bolt_check.proofs.Words.{At_inline, At_page, Entry, follow, Node, ne_eqb, Nodes, none-some, PageSpot, root_spot, Spot, step, step_entry}
use Rattle.bolt_check.proofs.Forest.{follow_none}
use Rattle.bolt_check.specs.{BboltFindings.bucket_way, BboltFindings.first_leaf_depth, BboltFindings.leaf_depth, Ways.reached, Ways.step_at}
pub use Rattle.bolt_check.specs.Private.Unread.{own_leaves, page_leaves}

-- the depth of the first leaf of the bucket in which a way from here ends, by that of the bucket of the page above
abbrev pub leaves_along : Nodes → (above : ℕ) → Option Spot → List ℕ → ℕ
leaves_along nodes above None way = above
leaves_along nodes above (Some here) [] = own_leaves nodes above here
leaves_along nodes above (Some here) (i ∷ way) = leaves_along nodes (own_leaves nodes above here) (step nodes (Some here) i) way

-- ---- an entry leads to a child, which is one deeper, or to a bucket's root page

abbrev depth_of : Option Spot → ℕ
depth_of (Some (At_page s)) = s.depth
depth_of (Some (At_inline host inner)) = 0
depth_of None = 0

bucket_kid : (bucket small : Bool) (host : ℕ) (e : Entry) (k : PageSpot)
    → cond bucket (Some (cond small (At_inline host e.inner) (At_page (root_spot e.child)))) None ≡ Some (At_page k) → k.depth ≡ 1
bucket_kid bucket small host e k h = grind (arith, none-some)

entry_kid : (is_leaf : Bool) (s k : PageSpot) (e next : Option Entry) → step_entry is_leaf s e next ≡ Some (At_page k)
    → (k.depth ≡ suc s.depth) ⊎ (k.depth ≡ 1)
entry_kid is_leaf s k e next h = grind (arith, none-some, bucket_kid)

node_kid : (r : Result Node ℕ) (s k : PageSpot) (i : ℕ) → step_at r s i ≡ Some (At_page k) → (k.depth ≡ suc s.depth) ⊎ (k.depth ≡ 1)
node_kid (Err fault) s k i h = absurd (none-some (At_page k) h)
node_kid (Ok node) s k i h = entry_kid node.is_leaf s k (slice_get node.entries i) (slice_get node.entries (suc i)) h

-- ---- along a way

module _ (nodes : Nodes) where
  pub child_leaves : (above : ℕ) (k : PageSpot) → 2 ≤ k.depth → page_leaves nodes above k ≡ above
  child_leaves above k deep = rw (ne_eqb k.depth 1 (λ one. absurd (omega (arith, one, deep)))) refl

  root_leaves : (above : ℕ) (k : PageSpot) → k.depth ≡ 1 → page_leaves nodes above k ≡ first_leaf_depth nodes 63 k.number
  root_leaves above k one = rw one refl

  inline_ends : (host : ℕ) (inner : _) (way : List ℕ) (t : PageSpot) → follow nodes (Some (At_inline host inner)) way ≡ Some (At_page t) → ⊥
  inline_ends host inner [] t e = cc
  inline_ends host inner (i ∷ way) t e = none-some (At_page t) (sym (follow_none nodes way) ∙ e)

  -- The way stays in the bucket of the page here, or another bucket begins on it.
  abbrev Stays : PageSpot → (above : ℕ) → List ℕ → PageSpot → Type 0
  Stays s above way t = (t.depth ≡ s.depth + length way) × (leaves_along nodes above (Some (At_page s)) way ≡ page_leaves nodes above s)

  abbrev Leaves : PageSpot → (above : ℕ) → List ℕ → PageSpot → Type 0
  Leaves s above way t =
      (t.depth ≤ length way) × (leaves_along nodes above (Some (At_page s)) way ≡ leaf_depth nodes (follow nodes (Some (At_page s)) (bucket_way way t.depth)))

  take_some : (n m i : ℕ) (way : List ℕ) → n ≡ suc m → take n (i ∷ way) ≡ i ∷ take m way
  take_some n m i way e = rw e refl

  along : (s : PageSpot) → 1 ≤ s.depth → (above : ℕ) (way : List ℕ) (t : PageSpot) → follow nodes (Some (At_page s)) way ≡ Some (At_page t)
      → Stays s above way t ⊎ Leaves s above way t
  along s low above [] t e = inl (let same = ap depth_of e in omega (arith, same), refl)
  along s low above (i ∷ way) t e = by (step nodes (Some (At_page s)) i) refl (λ k deep f. along k deep (page_leaves nodes above s) way t f)
    where
      by_kid : (k : PageSpot) → step nodes (Some (At_page s)) i ≡ Some (At_page k) → (k.depth ≡ suc s.depth) ⊎ (k.depth ≡ 1)
          → Stays k (page_leaves nodes above s) way t ⊎ Leaves k (page_leaves nodes above s) way t → Stays s above (i ∷ way) t ⊎ Leaves s above (i ∷ way) t
      by_kid k q (inl child) (inl (deep, same)) = inl (
        omega (arith, child, deep),
        ap (λ (o : Option Spot). leaves_along nodes (page_leaves nodes above s) o way) q ∙ same
            ∙ child_leaves (page_leaves nodes above s) k (omega (arith, child, low)),
      )
      by_kid k q (inr root) (inl (deep, same)) = inr (
        omega (arith, root, deep),
        ap (λ (o : Option Spot). leaves_along nodes (page_leaves nodes above s) o way) q ∙ same ∙ root_leaves (page_leaves nodes above s) k root
            ∙ sym (ap (λ (w : List ℕ). leaf_depth nodes (follow nodes (Some (At_page s)) w))
            (take_some (length (i ∷ way) + 1 - t.depth) 0 i way (omega (arith, root, deep)))
            ∙ ap (leaf_depth nodes) q),
      )
      by_kid k q kind (inr (less, same)) = inr (
        omega (arith, less),
        ap (λ (o : Option Spot). leaves_along nodes (page_leaves nodes above s) o way) q ∙ same
            ∙ sym (ap (λ (w : List ℕ). leaf_depth nodes (follow nodes (Some (At_page s)) w))
            (take_some (length (i ∷ way) + 1 - t.depth) (length way + 1 - t.depth) i way (omega (arith, less)))
            ∙ ap (λ (o : Option Spot). leaf_depth nodes (follow nodes o (bucket_way way t.depth))) q),
      )

      by : (o : Option Spot) → step nodes (Some (At_page s)) i ≡ o
          → ((k : PageSpot) → 1 ≤ k.depth → follow nodes (Some (At_page k)) way ≡ Some (At_page t)
          → Stays k (page_leaves nodes above s) way t ⊎ Leaves k (page_leaves nodes above s) way t)
          → Stays s above (i ∷ way) t ⊎ Leaves s above (i ∷ way) t
      by o q further = grind (arith, none-some, follow_none, inline_ends, node_kid, by_kid)

  -- from the root page of the file
  pub leaves_same : (root : ℕ) (way : List ℕ) (t : PageSpot) → reached nodes root way ≡ Some (At_page t)
      → leaves_along nodes 0 (Some (At_page (root_spot root))) way ≡ leaf_depth nodes (reached nodes root (bucket_way way t.depth))
  leaves_same root way t e = grind (arith, along)
