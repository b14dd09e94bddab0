-- Sums over what is still to be read, through the reading of a page.
use Rattle.std.proofs.Common.{◌≡◌, ◌∙◌, ◌+◌, ◌≤◌, ◌⊎◌, ℕ, inl, inr, Bool, true, false, List, [], ◌∷◌, ◌++◌, Ok, map, sum_by, refl, sym, ap}
use Rattle.std.proofs.Common.{subst, arith}
use Rattle.std.proofs.lemmas.List.Sums.{sum_by-append}
use Rattle.bolt_lemmas.proofs.Exports.{has_left, has_split}
use Rattle.bolt_stats.proofs.Words.{AreGood, bucket_figure, Enough, enough_kids, Figure, figure, Has, has_right, inner_pages, inner_roots, kid_pages}
use Rattle.bolt_stats.proofs.Words.{map-append, Meta, Node, node_at, unread_numbers, pages_in_bucket, roots_in_bucket, roots_of, Stats, sum_by-cons}
use Rattle.bolt_stats.proofs.Words.{total_of, UnreadBucket, UnreadPage, weight, ∥∥₁_map}
use Rattle.bolt_stats.proofs.DepthSums.{page_has, root_has}
use Rattle.bolt_check.specs.Nodes.{Entry}
use Rattle.bolt_check.proofs.Exports.{weight_kids}

-- the last page was taken
pub popped : (old new : List UnreadPage) (p : UnreadPage) → old ≡ new ++ p ∷ [] → unread_numbers old ≡ unread_numbers new ++ p.number ∷ []
popped old new p e = ap (map (λ (q : UnreadPage). q.number)) e ∙ map-append (λ (q : UnreadPage). q.number) new (p ∷ [])

-- the first page was opened
pub started : (old new : List UnreadPage) (p : UnreadPage) → old ≡ [] → new ≡ old ++ p ∷ [] → unread_numbers new ≡ p.number ∷ []
started old new p none e = ap unread_numbers (e ∙ ap (λ (l : List UnreadPage). l ++ p ∷ []) none)

module _ (file : List ℕ) (meta : Meta) where
  inner_sum : (own : ℕ → ℕ) (is_leaf : Bool) (entries : List Entry)
      → total_of file meta own (pages_in_bucket is_leaf entries) + total_of file meta own (roots_in_bucket is_leaf entries)
      ≡ total_of file meta own (kid_pages is_leaf entries)
  inner_sum own false entries = omega arith
  inner_sum own true entries = omega arith

  -- what a page shows itself, and what is then left, are what was left
  pub read_sum : (own : ℕ → ℕ) (rest roots pages found : List ℕ) (n : ℕ) (node : Node) → node_at file meta n ≡ Ok node
      → Enough (node_at file meta) meta.high_water n
      → pages ≡ rest ++ inner_pages node → found ≡ roots ++ inner_roots node
      → own n + (total_of file meta own pages + total_of file meta own found) ≡ total_of file meta own (rest ++ n ∷ []) + total_of file meta own roots
  read_sum own rest roots pages found n node page enough a b = grind (arith, weight_kids, inner_sum, sum_by-append, sum_by-cons)

  pub read_good : (rest roots pages found : List ℕ) (n : ℕ) (node : Node) → node_at file meta n ≡ Ok node
      → AreGood file meta ((rest ++ n ∷ []) ++ roots)
      → pages ≡ rest ++ inner_pages node → found ≡ roots ++ inner_roots node → AreGood file meta (pages ++ found)
  read_good rest roots pages found n node page good a b m h =
      let P : ℕ → Type 0 = λ k. Enough (node_at file meta) meta.high_water k in
      let here : P n = good n (has_left (rest ++ n ∷ []) roots n (has_right rest (n ∷ []) n (inl refl))) in
      let kid : (k : ℕ) → Has (kid_pages node.is_leaf node.entries) k → P k = enough_kids (node_at file meta) meta.high_water n node page here in
      let in_pages : Has pages m → P m = λ i. elim (has_split rest (inner_pages node) m (subst (λ (l : List ℕ). Has l m) a i)) [
        | inl j ↦ good m (has_left (rest ++ n ∷ []) roots m (has_left rest (n ∷ []) m j))
        | inr j ↦ kid m (page_has m node.is_leaf node.entries j)
      ] in
      let in_found : Has found m → P m = λ i. elim (has_split roots (inner_roots node) m (subst (λ (l : List ℕ). Has l m) b i)) [
        | inl j ↦ good m (has_right (rest ++ n ∷ []) roots m j)
        | inr j ↦ kid m (root_has m node.is_leaf node.entries j)
      ] in
      let in_both : Has (pages ++ found) m → P m = λ i. elim (has_split pages found m i) [ inl j ↦ in_pages j | inr j ↦ in_found j ] in in_both
      h

  -- the next page is good
  pub next_good : (rest roots pages : List ℕ) (n : ℕ) → pages ≡ rest ++ n ∷ [] → ∥ AreGood file meta (pages ++ roots) ∥₁
      → ∥ Enough (node_at file meta) meta.high_water n ∥₁
  next_good rest roots pages n e good =
      ∥∥₁_map good (λ g. g n (has_left pages roots n (subst (λ (l : List ℕ). Has l n) (sym e) (has_right rest (n ∷ []) n (inl refl)))))

-- no figure of the record that is all zeros
abbrev AllZero : Stats → Type 0
AllZero s =
    (s.buckets ≡ 0) × ((s.inline_buckets ≡ 0)
    × ((s.inline_used ≡ 0) × ((s.keys ≡ 0)
    × ((s.depth ≡ 0) × ((s.branch_pages ≡ 0)
    × ((s.branch_overflow ≡ 0)
    × ((s.branch_allocated ≡ 0) × ((s.branch_used ≡ 0) × ((s.leaf_pages ≡ 0) × ((s.leaf_overflow ≡ 0) × ((s.leaf_allocated ≡ 0) × (s.leaf_used ≡ 0))))))))))))

pub zero_figure : (f : Figure) (s : Stats) → AllZero s → figure f s ≡ 0
zero_figure f s zero = grind arith

pub zero_depth : (s : Stats) → AllZero s → s.depth ≡ 0
zero_depth s zero = grind arith

-- more buckets were found
pub more_found : (file : List ℕ) (meta : Meta) (own : ℕ → ℕ) (roots found inner : List ℕ) → found ≡ roots ++ inner
    → total_of file meta own roots ≤ total_of file meta own found
more_found file meta own roots found inner e = grind (arith, sum_by-append)

-- a root page goes over to the open buckets
module _ (before more : List UnreadBucket) (b : UnreadBucket) (roots rest : List ℕ) (root : ℕ) (popped_ : roots ≡ rest ++ root ∷ [])
    (pushed : more ≡ before ++ b ∷ []) (same : b.root ≡ root) where
  opened : roots_of more ≡ roots_of before ++ root ∷ []
  opened = ap (map (λ (x : UnreadBucket). x.root)) pushed ∙ map-append (λ (x : UnreadBucket). x.root) before (b ∷ []) ∙ ap (λ n. roots_of before ++ n ∷ []) same

  pub moved_sum : (w : ℕ → ℕ) → sum_by w (roots_of more) + sum_by w rest ≡ sum_by w (roots_of before) + sum_by w roots
  moved_sum w =
      let p = ap (sum_by w) opened ∙ sum_by-append w (roots_of before) (root ∷ []) in
      let q = ap (sum_by w) popped_ ∙ sum_by-append w rest (root ∷ []) in
      omega (arith, p, q)

  pub moved_from : (m : ℕ) → Has (roots_of more) m ⊎ Has rest m → Has (roots_of before) m ⊎ Has roots m
  moved_from m (inl h) = elim (has_split (roots_of before) (root ∷ []) m (subst (λ (l : List ℕ). Has l m) opened h))
      [ inl i ↦ inl i | inr i ↦ inr (subst (λ (l : List ℕ). Has l m) (sym popped_) (has_right rest (root ∷ []) m i)) ]
  moved_from m (inr h) = inr (subst (λ (l : List ℕ). Has l m) (sym popped_) (has_left rest (root ∷ []) m h))

-- the depth is none of the figures that are summed
abbrev at_depth : ℕ → Stats → Stats
at_depth deep s = record s { depth = deep }

pub deepened : (f : Figure) (s : Stats) (deep : ℕ) → figure f (at_depth deep s) ≡ figure f s
deepened f s deep = grind arith

-- one bucket, of which nothing was read
abbrev one_bucket : Stats → Stats
one_bucket s = record s { buckets = 1 }

pub first_figure : (f : Figure) (s : Stats) → AllZero s → figure f (one_bucket s) ≡ bucket_figure f
first_figure f s zero = grind arith

module _ (file : List ℕ) (meta : Meta) where
  pub unread_popped : (old new : List UnreadBucket) (b : UnreadBucket) → old ≡ new ++ b ∷ [] → roots_of old ≡ roots_of new ++ b.root ∷ []
  unread_popped old new b e = ap (map (λ (x : UnreadBucket). x.root)) e ∙ map-append (λ (x : UnreadBucket). x.root) new (b ∷ [])

  pub total_popped : (own : ℕ → ℕ) (old rest : List ℕ) (n : ℕ) → old ≡ rest ++ n ∷ []
      → total_of file meta own old ≡ total_of file meta own rest + total_of file meta own (n ∷ [])
  total_popped own old rest n e = let w = weight (node_at file meta) own meta.high_water in ap (sum_by w) e ∙ sum_by-append w rest (n ∷ [])

  pub last_good : (old rest : List ℕ) (n : ℕ) → old ≡ rest ++ n ∷ [] → AreGood file meta old → AreGood file meta (n ∷ [])
  last_good old rest n e good m h = good m (subst (λ (l : List ℕ). Has l m) (sym e) (has_right rest (n ∷ []) m h))

  pub all_good : (old rest found new : List ℕ) (n : ℕ) → old ≡ rest ++ n ∷ [] → ((m : ℕ) → Has new m → Has rest m ⊎ Has found m)
      → AreGood file meta old → AreGood file meta found → AreGood file meta new
  all_good old rest found new n e from good other m h =
      elim (from m h) [ inl i ↦ good m (subst (λ (l : List ℕ). Has l m) (sym e) (has_left rest (n ∷ []) m i)) | inr i ↦ other m i ]

pub first_fits : (f : Figure) → bucket_figure f ≤ 1
first_fits f = grind arith
