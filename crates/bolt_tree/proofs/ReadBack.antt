-- A tree is read off its listing: its trees, from the last member to the first.
use Rattle.std.proofs.Common.{◌≡◌, ◌∙◌, ◌<◌, ◌≤◌, ℕ, zero, suc, List, [], ◌∷◌, ◌++◌, length, refl, sym, ap, subst, arith, append_assoc, append-nil}
use Rattle.std.proofs.Common.{length-append}
use Rattle.bolt_tree.proofs.Words.{Item, Key, Member, Path, Tree, Value, end, first_tree, later_trees, listing_below, listing_of, put_first, tree_of}
use Rattle.bolt_tree.proofs.Words.{trees_by_depth, with_bucket, with_value}
use Rattle.bolt_tree.specs.Entries.{Bucket}

-- the tree at a depth
abbrev at_depth : ℕ → List Tree → Tree
at_depth zero trees = first_tree trees
at_depth (suc d) trees = at_depth d (later_trees trees)

none_at_depth : (i : ℕ) → at_depth i [] ≡ end
none_at_depth zero = refl
none_at_depth (suc i) = none_at_depth i

-- what a member does to the trees
abbrev own_tree : Key → Item → ℕ → List Tree → Tree
own_tree key (Value value) d trees = with_value key value (at_depth d trees)
own_tree key (Bucket sequence) d trees = with_bucket key sequence (at_depth (suc d) trees) (at_depth d trees)

record Puts (d : ℕ) (tree : Tree) (trees after : List Tree) : Type 0 where
  pub before : (i : ℕ) → i < d → at_depth i after ≡ at_depth i trees
  pub at : at_depth d after ≡ tree
  pub after_it : (i : ℕ) → d < i → at_depth i after ≡ end

below_one : (d : ℕ) (tree tree_before : Tree) (trees after : List Tree) → tree_before ≡ first_tree trees → Puts d tree (later_trees trees) after
    → Puts (suc d) tree trees (tree_before ∷ after)
below_one d tree tree_before trees after same p = record {
  before = λ i h. by i h;
  at = p.at;
  after_it = λ i h. by_after i h;
}
  where
    by : (i : ℕ) → i < suc d → at_depth i (tree_before ∷ after) ≡ at_depth i trees
    by zero h = same
    by (suc i) h = p.before i (omega arith)

    by_after : (i : ℕ) → suc d < i → at_depth i (tree_before ∷ after) ≡ end
    by_after i h = grind arith

alone : (tree : Tree) (trees : List Tree) → Puts zero tree trees (tree ∷ [])
alone tree trees = record { before = λ i h. absurd (omega arith); at = refl; after_it = λ i h. by i h }
  where
    by : (i : ℕ) → 0 < i → at_depth i (tree ∷ []) ≡ end
    by zero h = absurd (omega arith)
    by (suc i) h = none_at_depth i

puts_member : (path : Path) (key : Key) (item : Item) (trees : List Tree)
    → Puts (length path) (own_tree key item (length path) trees) trees (put_first (path ++ key ∷ []) item trees)
puts_member [] key (Value value) trees = alone (with_value key value (first_tree trees)) trees
puts_member [] key (Bucket sequence) trees = alone (with_bucket key sequence (first_tree (later_trees trees)) (first_tree trees)) trees
puts_member (a ∷ []) key (Value value) trees =
    below_one 0 (with_value key value (first_tree (later_trees trees))) (first_tree trees) trees (put_first (key ∷ []) (Value value) (later_trees trees))
    refl (puts_member [] key (Value value) (later_trees trees))
puts_member (a ∷ []) key (Bucket sequence) trees =
    below_one 0 (with_bucket key sequence (first_tree (later_trees (later_trees trees))) (first_tree (later_trees trees))) (first_tree trees) trees
    (put_first (key ∷ []) (Bucket sequence) (later_trees trees)) refl
    (puts_member [] key (Bucket sequence) (later_trees trees))
puts_member (a ∷ b ∷ path) key (Value value) trees =
    below_one (length (b ∷ path)) (own_tree key (Value value) (length (b ∷ path)) (later_trees trees)) (first_tree trees) trees
    (put_first ((b ∷ path) ++ key ∷ []) (Value value) (later_trees trees)) refl
    (puts_member (b ∷ path) key (Value value) (later_trees trees))
puts_member (a ∷ b ∷ path) key (Bucket sequence) trees =
    below_one (length (b ∷ path)) (own_tree key (Bucket sequence) (length (b ∷ path)) (later_trees trees)) (first_tree trees) trees
    (put_first ((b ∷ path) ++ key ∷ []) (Bucket sequence) (later_trees trees)) refl
    (puts_member (b ∷ path) key (Bucket sequence) (later_trees trees))

-- a tree's listing puts that tree at its depth
puts_tree : (tree : Tree) (path : Path) (d : ℕ) (rest : List Member) → length path ≡ d → ((i : ℕ) → d ≤ i → at_depth i (trees_by_depth rest) ≡ end)
    → Puts d tree (trees_by_depth rest) (trees_by_depth (listing_below path tree ++ rest))
puts_tree end path d rest len none = record { before = λ i h. refl; at = none d (omega arith); after_it = λ i h. none i (omega arith) }
puts_tree (with_value key value after) path d rest len none =
    let p = puts_tree after path d rest len none in
    let q =
    subst (λ (n : ℕ).
    Puts n (own_tree key (Value value) n (trees_by_depth (listing_below path after ++ rest))) (trees_by_depth (listing_below path after ++ rest))
    (put_first (path ++ key ∷ []) (Value value) (trees_by_depth (listing_below path after ++ rest)))) len
    (puts_member path key (Value value) (trees_by_depth (listing_below path after ++ rest))) in
    record { before = λ i h. q.before i h ∙ p.before i h; at = q.at ∙ ap (λ (t : Tree). with_value key value t) p.at; after_it = q.after_it }
puts_tree (with_bucket key sequence inside after) path d rest len none =
    let p = puts_tree after path d rest len none in
    let deep : Path = path ++ key ∷ [] in
    let later : List Member = listing_below path after ++ rest in
    let longer : length deep ≡ suc d = (let n = length-append path (key ∷ []) in let one : length (key ∷ []) ≡ 1 = refl in omega (arith, n, one, len)) in
    let r = puts_tree inside deep (suc d) later longer (λ i h. p.after_it i (omega arith)) in
    let all : List Member = listing_below deep inside ++ later in
    let q =
    subst (λ (n : ℕ).
    Puts n (own_tree key (Bucket sequence) n (trees_by_depth all)) (trees_by_depth all) (put_first deep (Bucket sequence) (trees_by_depth all))) len
    (puts_member path key (Bucket sequence) (trees_by_depth all)) in
    let here : at_depth d (trees_by_depth all) ≡ after = r.before d (omega arith) ∙ p.at in
    grind (arith, append_assoc, with_bucket)

pub tree_back : (tree : Tree) → tree_of (listing_of tree) ≡ tree
tree_back tree =
    ap (λ (ms : List Member). first_tree (trees_by_depth ms)) (sym (append-nil (listing_of tree))) ∙ (puts_tree tree [] 0 [] refl (λ i h. none_at_depth i)).at
