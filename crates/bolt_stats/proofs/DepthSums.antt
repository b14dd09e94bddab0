-- The depths of a bucket, page by page: a page's own, and those of the pages that it leads to.
use Rattle.std.proofs.Common.{◌≡◌, ◌∙◌, ℕ, zero, suc, ◌+◌, ◌≤◌, max, inl, inr, Bool, true, false, List, [], ◌∷◌, ◌++◌, Result, Ok, map, refl, sym, ap}
use Rattle.std.proofs.Common.{subst, arith}
use Rattle.bolt_stats.proofs.Words.{deepest_from, Enough, greatest, Has, height_from, inner_inline, inner_pages, inner_roots, kid_pages, leaf_at}
use Rattle.bolt_stats.proofs.Words.{counted_depth, Node, Nodes, child_pages, pages_in_bucket, roots_in_bucket}
use Rattle.bolt_check.specs.Nodes.{Entry}
use Rattle.bolt_stats.specs.Deepest.{inline_at, roots_at}

pub greatest_append : {X : Type 0} (f : X → ℕ) (a b : List X) → greatest f (a ++ b) ≡ max (greatest f a) (greatest f b)
greatest_append f [] b = omega arith
greatest_append f (x ∷ a) b = let h = greatest_append f a b in omega (arith, h)

pub greatest_map : {X Y : Type 0} (f : Y → ℕ) (g : X → Y) (xs : List X) → greatest f (map g xs) ≡ greatest (λ x. f (g x)) xs
greatest_map f g [] = refl
greatest_map f g (x ∷ xs) = ap (max (f (g x))) (greatest_map f g xs)

pub greatest_same : (f g : ℕ → ℕ) (xs : List ℕ) → ((m : ℕ) → Has xs m → f m ≡ g m) → greatest f xs ≡ greatest g xs
greatest_same f g [] same = refl
greatest_same f g (x ∷ xs) same = let here = same x (inl refl) in let rest = greatest_same f g xs (λ m i. same m (inr i)) in omega (arith, here, rest)

pub greatest_has : (f : ℕ → ℕ) (xs : List ℕ) (m : ℕ) → Has xs m → f m ≤ greatest f xs
greatest_has f [] m h = absurd h
greatest_has f (x ∷ xs) m (inl e) = let same = ap f (sym e) in omega (arith, same)
greatest_has f (x ∷ xs) m (inr h) = let rest = greatest_has f xs m h in omega (arith, rest)

pub page_has : (m : ℕ) (is_leaf : Bool) (entries : List Entry) → Has (pages_in_bucket is_leaf entries) m → Has (kid_pages is_leaf entries) m
page_has m false entries h = h
page_has m true entries h = absurd h

pub root_has : (m : ℕ) (is_leaf : Bool) (entries : List Entry) → Has (roots_in_bucket is_leaf entries) m → Has (kid_pages is_leaf entries) m
root_has m false entries h = absurd h
root_has m true entries h = h

module _ (nodes : Nodes) where
  abbrev pub depth_from : ℕ → ℕ → ℕ
  depth_from k root = height_from nodes 1 k root + deepest_from nodes k root

  low_page : (k n m : ℕ) → Enough nodes (suc k) n → Has (child_pages (nodes n)) m → Enough nodes k m
  low_page k n m (node, page, kids) i = kids m (page_has m node.is_leaf node.entries (subst (λ (r : Result Node ℕ). Has (child_pages r) m) page i))

  low_root : (k n m : ℕ) → Enough nodes (suc k) n → Has (roots_at (nodes n)) m → Enough nodes k m
  low_root k n m (node, page, kids) i = kids m (root_has m node.is_leaf node.entries (subst (λ (r : Result Node ℕ). Has (roots_at r) m) page i))

  -- more steps than enough change nothing
  height_more : (depth k n : ℕ) → Enough nodes k n → height_from nodes depth (suc k) n ≡ height_from nodes depth k n
  height_more depth zero n h = absurd h
  height_more depth (suc k) n h =
      ap (max (leaf_at (nodes n) depth))
      (greatest_same (height_from nodes (suc depth) (suc k)) (height_from nodes (suc depth) k) (child_pages (nodes n))
      (λ m i. height_more (suc depth) k m (low_page k n m h i)))

  deepest_more : (k n : ℕ) → Enough nodes k n → deepest_from nodes (suc k) n ≡ deepest_from nodes k n
  deepest_more zero n h = absurd h
  deepest_more (suc k) n h =
      let pages = greatest_same (deepest_from nodes (suc k)) (deepest_from nodes k) (child_pages (nodes n)) (λ m i. deepest_more k m (low_page k n m h i)) in
      let roots = greatest_same (depth_from (suc k)) (depth_from k) (roots_at (nodes n)) (λ m i.
      let low = low_root k n m h i in let a = height_more 1 k m low in let b = deepest_more k m low in omega (arith, a, b)) in
      omega (arith, pages, roots)

  -- a page's own, and those below it
  pub height_kids : (depth k n : ℕ) (node : Node) → nodes n ≡ Ok node → Enough nodes k n
      → height_from nodes depth k n ≡ max (counted_depth node.is_leaf depth) (greatest (height_from nodes (suc depth) k) (inner_pages node))
  height_kids depth k n node page h =
      sym (height_more depth k n h) ∙ ap (λ (r : Result Node ℕ). max (leaf_at r depth) (greatest (height_from nodes (suc depth) k) (child_pages r))) page

  pub deepest_kids : (k n : ℕ) (node : Node) → nodes n ≡ Ok node → Enough nodes k n
      → deepest_from nodes k n ≡ max (inner_inline node) (max (greatest (deepest_from nodes k) (inner_pages node)) (greatest (depth_from k) (inner_roots node)))
  deepest_kids k n node page h =
      sym (deepest_more k n h)
      ∙ ap (λ (r : Result Node ℕ). max (inline_at r) (max (greatest (deepest_from nodes k) (child_pages r)) (greatest (depth_from k) (roots_at r)))) page
