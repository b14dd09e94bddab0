-- How deep a bucket is, found page by page: in so many steps, as of `weight`.
use Rattle.std.specs.Prelude.{◌==◌, ℕ, zero, suc, ◌+◌, max, Bool, true, false, List, [], ◌∷◌, Result, Ok, Err, if◌then◌else◌}
use Rattle.bolt_format.specs.declared.meta.Meta.{Meta}
use Rattle.bolt_check.specs.{CheckedFiles.bytes_of, CheckedFiles.meta_of, Nodes.Entry, Nodes.Node, Nodes.Nodes, Nodes.node_at}
use Rattle.bolt_check.specs.{declared.checked.Checked.Checked}
use Rattle.bolt_stats.specs.Readings.{inner_pages, inner_roots}

abbrev pub greatest : {X : Type 0} → (X → ℕ) → List X → ℕ
greatest f [] = 0
greatest f (x ∷ xs) = max (f x) (greatest f xs)

-- the depth of an entry's bucket, if it is inline
abbrev pub inline_depth : Entry → ℕ
inline_depth e = if e.is_bucket then (if e.child == 0 then 1 else 0) else 0

abbrev pub inline_in_bucket : Bool → List Entry → ℕ
inline_in_bucket false entries = 0
inline_in_bucket true entries = greatest inline_depth entries

abbrev pub inner_inline : Node → ℕ
inner_inline node = inline_in_bucket node.is_leaf node.entries

-- the depth that a page counts: its own if it is a leaf, and otherwise 0
abbrev pub counted_depth : Bool → ℕ → ℕ
counted_depth false depth = 0
counted_depth true depth = depth

abbrev pub leaf_at : Result Node ℕ → ℕ → ℕ
leaf_at (Ok node) depth = counted_depth node.is_leaf depth
leaf_at (Err fault) depth = 0

abbrev pub child_pages : Result Node ℕ → List ℕ
child_pages (Ok node) = inner_pages node
child_pages (Err fault) = []

abbrev pub roots_at : Result Node ℕ → List ℕ
roots_at (Ok node) = inner_roots node
roots_at (Err fault) = []

abbrev pub inline_at : Result Node ℕ → ℕ
inline_at (Ok node) = inner_inline node
inline_at (Err fault) = 0

module _ (nodes : Nodes) where
  -- the greatest depth of a leaf of the bucket at or below page n, which is so deep itself
  abbrev pub height_from : ℕ → ℕ → ℕ → ℕ
  height_from depth zero n = 0
  height_from depth (suc k) n = max (leaf_at (nodes n) depth) (greatest (height_from (suc depth) k) (child_pages (nodes n)))

  -- the greatest depth of a bucket that lies in a leaf of the bucket at or below page n
  abbrev pub deepest_from : ℕ → ℕ → ℕ
  deepest_from zero n = 0
  deepest_from (suc k) n =
      max (inline_at (nodes n))
      (max (greatest (deepest_from k) (child_pages (nodes n))) (greatest (λ root. height_from 1 k root + deepest_from k root) (roots_at (nodes n))))

-- the height and the greatest depth at or below page n of a file
abbrev pub height_of : List ℕ → Meta → ℕ → ℕ → ℕ
height_of file meta depth n = height_from (node_at file meta) depth meta.high_water n

abbrev pub deepest_of : List ℕ → Meta → ℕ → ℕ
deepest_of file meta n = deepest_from (node_at file meta) meta.high_water n

-- the depth of the bucket with this root page
abbrev pub depth_of : List ℕ → Meta → ℕ → ℕ
depth_of file meta root = height_of file meta 1 root + deepest_of file meta root

-- ---- the same of a file that passed its tests

abbrev pub deepest_in : Checked → ℕ → ℕ
deepest_in checked root = deepest_of (bytes_of checked) (meta_of checked) root

abbrev pub depth_in : Checked → ℕ → ℕ
depth_in checked root = depth_of (bytes_of checked) (meta_of checked) root
