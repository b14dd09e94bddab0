-- Depths of what is still to be read, through the reading of a page and of a bucket.
use Rattle.std.proofs.Common.{◌≡◌, ◌∙◌, ℕ, zero, suc, ◌+◌, max, Bool, true, false, List, [], ◌∷◌, ◌++◌, Result, Ok, Err, map, refl, ap, arith}
use Rattle.bolt_stats.proofs.Words.{saturated, deepest_of, depth_of, Enough, greatest, height_from, height_of, inner_inline, inner_pages, inner_roots}
use Rattle.bolt_stats.proofs.Words.{leaf_at, counted_depth, map-append, Meta, Node, node_at, Nodes, unread_numbers, child_pages, unread_bucket}
use Rattle.bolt_stats.proofs.Words.{unread_page, UnreadBucket, UnreadPage}
use Rattle.bolt_stats.proofs.DepthSums.{deepest_kids, greatest_append, greatest_map, height_kids}

-- a depth that is saturated counts the same
greatest_capped : (f g : ℕ → ℕ) (xs : List ℕ) → ((n : ℕ) → saturated (f n) ≡ saturated (g n)) → saturated (greatest f xs) ≡ saturated (greatest g xs)
greatest_capped f g [] same = refl
greatest_capped f g (x ∷ xs) same = let here = same x in let rest = greatest_capped f g xs same in omega (arith, here, rest)

leaf_capped : (r : Result Node ℕ) (a b : ℕ) → saturated a ≡ saturated b → saturated (leaf_at r a) ≡ saturated (leaf_at r b)
leaf_capped (Err fault) a b same = refl
leaf_capped (Ok node) a b same = by_kind node.is_leaf
  where
    by_kind : (is_leaf : Bool) → saturated (counted_depth is_leaf a) ≡ saturated (counted_depth is_leaf b)
    by_kind true = same
    by_kind false = refl

height_capped : (nodes : Nodes) (a b k n : ℕ) → saturated a ≡ saturated b → saturated (height_from nodes a k n) ≡ saturated (height_from nodes b k n)
height_capped nodes a b zero n same = refl
height_capped nodes a b (suc k) n same =
    let own = leaf_capped (nodes n) a b same in
    let next : saturated (suc a) ≡ saturated (suc b) = omega (arith, same) in
    let below =
    greatest_capped (height_from nodes (suc a) k) (height_from nodes (suc b) k) (child_pages (nodes n)) (λ m. height_capped nodes (suc a) (suc b) k m next) in
    omega (arith, own, below)

-- the numbers of pages that were opened
opened_numbers : (depth : ℕ) (ns : List ℕ) → unread_numbers (map (unread_page depth) ns) ≡ ns
opened_numbers depth [] = refl
opened_numbers depth (n ∷ ns) = ap (λ (l : List ℕ). n ∷ l) (opened_numbers depth ns)

pub numbers_opened : (old new : List UnreadPage) (depth : ℕ) (ns : List ℕ) → new ≡ old ++ map (unread_page depth) ns
    → unread_numbers new ≡ unread_numbers old ++ ns
numbers_opened old new depth ns e =
    ap unread_numbers e ∙ map-append (λ (p : UnreadPage). p.number) old (map (unread_page depth) ns)
    ∙ ap (λ (l : List ℕ). unread_numbers old ++ l) (opened_numbers depth ns)

module _ (file : List ℕ) (meta : Meta) where
  abbrev pub page_height : UnreadPage → ℕ
  page_height p = height_of file meta p.depth p.number

  abbrev pub bucket_end : UnreadBucket → ℕ
  bucket_end b = b.above + depth_of file meta b.root

  -- the first page is the bucket's own
  pub first_height : (old new : List UnreadPage) (p : UnreadPage) → old ≡ [] → new ≡ old ++ p ∷ [] → greatest page_height new ≡ page_height p
  first_height old new p none e = let all = ap (greatest page_height) (e ∙ ap (λ (l : List UnreadPage). l ++ p ∷ []) none) in omega (arith, all)

  -- the height of a page's own, and then of what is left, are that of what was left
  pub read_height : (rest old new : List UnreadPage) (p : UnreadPage) (node : Node) (h : ℕ) → node_at file meta p.number ≡ Ok node
      → Enough (node_at file meta) meta.high_water p.number
      → old ≡ rest ++ p ∷ [] → new ≡ rest ++ map (unread_page (saturated (p.depth + 1))) (inner_pages node) → h ≡ counted_depth node.is_leaf p.depth
      → saturated (max h (greatest page_height new)) ≡ saturated (greatest page_height old)
  read_height rest old new p node h page enough before after own =
      let nodes = node_at file meta in
      let d = saturated (p.depth + 1) in
      let whole = height_kids nodes p.depth meta.high_water p.number node page enough in
      let all = ap (greatest page_height) after ∙ greatest_append page_height rest (map (unread_page d) (inner_pages node)) in
      let kids = greatest_map page_height (unread_page d) (inner_pages node) in
      let same =
      greatest_capped (height_of file meta d) (height_of file meta (suc p.depth)) (inner_pages node)
      (λ m. height_capped nodes d (suc p.depth) meta.high_water m (omega arith)) in
      let was = ap (greatest page_height) before ∙ greatest_append page_height rest (p ∷ []) in
      omega (arith, whole, all, kids, same, was, own)

  pub read_deepest : (rest roots pages found : List ℕ) (n : ℕ) (node : Node) (d : ℕ) → node_at file meta n ≡ Ok node
      → Enough (node_at file meta) meta.high_water n
      → pages ≡ rest ++ inner_pages node → found ≡ roots ++ inner_roots node → d ≡ inner_inline node
      → max d (max (greatest (deepest_of file meta) pages) (greatest (depth_of file meta) found))
      ≡ max (greatest (deepest_of file meta) (rest ++ n ∷ [])) (greatest (depth_of file meta) roots)
  read_deepest rest roots pages found n node d page enough a b own = grind (arith, deepest_kids, greatest_append)

  under : (above d : ℕ) (f : ℕ → ℕ) (roots : List ℕ)
      → max (above + d) (greatest (λ (root : ℕ). above + f root) roots) ≡ above + max d (greatest f roots)
  under above d f [] = omega arith
  under above d f (x ∷ roots) = let rest = under above d f roots in omega (arith, rest)

  -- a bucket's own depth, and those of the buckets found in it, are its depth
  pub read_end : (old rest new : List UnreadBucket) (b : UnreadBucket) (found : List ℕ) (height above d deep : ℕ)
      → saturated height ≡ saturated (height_of file meta 1 b.root) → max d (greatest (depth_of file meta) found) ≡ deepest_of file meta b.root
      → above ≡ saturated (b.above + height) → deep ≡ saturated (above + d) → old ≡ rest ++ b ∷ []
      → greatest bucket_end new ≡ max (greatest bucket_end rest) (greatest (λ (root : ℕ). bucket_end (unread_bucket above root)) found)
      → saturated (max deep (greatest bucket_end new)) ≡ saturated (greatest bucket_end old)
  read_end old rest new b found height above d deep high most sum end before after =
      let others = greatest (λ (root : ℕ). above + depth_of file meta root) found in
      let sum_up : max (above + d) others ≡ above + deepest_of file meta b.root = under above d (depth_of file meta) found ∙ ap (λ (x : ℕ). above + x) most in
      let was : greatest bucket_end old ≡ max (greatest bucket_end rest) (bucket_end b) =
      ap (greatest bucket_end) before ∙ greatest_append bucket_end rest (b ∷ []) ∙ omega arith in
      omega (arith, high, sum, end, sum_up, was, after)

-- a root page goes over to the open buckets
pub moved_depth : (before more : List UnreadBucket) (roots rest : List ℕ) (root : ℕ) (f : UnreadBucket → ℕ) (above : ℕ) → roots ≡ rest ++ root ∷ []
    → more ≡ before ++ unread_bucket above root ∷ []
    → max (greatest f more) (greatest (λ (n : ℕ). f (unread_bucket above n)) rest)
    ≡ max (greatest f before) (greatest (λ (n : ℕ). f (unread_bucket above n)) roots)
moved_depth before more roots rest root f above popped pushed = grind (arith, greatest_append)
