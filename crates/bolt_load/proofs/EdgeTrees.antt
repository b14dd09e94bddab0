-- A member that comes last is put at the end of its bucket, which is on the right edge of the tree.
use Rattle.std.proofs.Common.{arith, ◌≡◌, ◌∙◌, ℕ, List, [], ◌∷◌, ◌++◌, refl, sym, ap, append_assoc, append-nil}
use Rattle.bolt_load.proofs.Words.{Bucket, end, Item, Key, listing_below, Member, Path, Tree, Value, with_bucket, with_value}

-- the first if nothing comes after, and otherwise the second
abbrev pub fact_at_end : Tree → Type 0 → Type 0 → Type 0
fact_at_end end here later = here
fact_at_end (with_value k v after) here later = later
fact_at_end (with_bucket k s inside after) here later = later

abbrev pub tree_at_end : Tree → Tree → Tree → Tree
tree_at_end end here later = here
tree_at_end (with_value k v after) here later = later
tree_at_end (with_bucket k s inside after) here later = later

-- the buckets on the right edge of a tree, by their paths
abbrev pub OnEdge : Tree → Path → Type 0
OnEdge end [] = Unit {0}
OnEdge end (part ∷ path) = ⊥
OnEdge (with_value k v after) path = OnEdge after path
OnEdge (with_bucket k s inside after) [] = Unit {0}
OnEdge (with_bucket k s inside after) (part ∷ path) = fact_at_end after ((k ≡ part) × OnEdge inside path) (OnEdge after (part ∷ path))

abbrev pub one_entry : Key → Item → Tree
one_entry key (Value value) = with_value key value end
one_entry key (Bucket sequence) = with_bucket key sequence end end

-- an entry more at the end of a bucket on the right edge
abbrev pub put_last : Tree → Path → Key → Item → Tree
put_last end path key item = one_entry key item
put_last (with_value k v after) path key item = with_value k v (put_last after path key item)
put_last (with_bucket k s inside after) [] key item = with_bucket k s inside (put_last after [] key item)
put_last (with_bucket k s inside after) (part ∷ path) key item =
    with_bucket k s (tree_at_end after (put_last inside path key item) inside) (tree_at_end after end (put_last after (part ∷ path) key item))

pub root_on_edge : (tree : Tree) → OnEdge tree []
root_on_edge end = tt
root_on_edge (with_value k v after) = root_on_edge after
root_on_edge (with_bucket k s inside after) = tt

moved : (front : List Member) (last : Member) → (front ++ last ∷ []) ++ [] ≡ (front ++ []) ++ last ∷ []
moved front last = append-nil (front ++ last ∷ []) ∙ ap (λ front. front ++ last ∷ []) (sym (append-nil front))

pub put_lists : (tree : Tree) (base path : Path) (key : Key) (item : Item) → OnEdge tree path
    → listing_below base (put_last tree path key item) ≡ listing_below base tree ++ (base ++ (path ++ key ∷ []), item) ∷ []
put_lists end base [] key (Value value) edge = refl
put_lists end base [] key (Bucket sequence) edge = refl
put_lists end base (part ∷ path) key item edge = absurd edge
put_lists (with_value k v after) base path key item edge = ap (λ more. (base ++ k ∷ [], Value v) ∷ more) (put_lists after base path key item edge)
put_lists (with_bucket k s inside after) base [] key item edge = grind (arith, append_assoc, put_lists after base [] key item (root_on_edge after))
put_lists (with_bucket k s inside end) base (part ∷ path) key item edge =
    let same : (base ++ k ∷ []) ++ (path ++ key ∷ []) ≡ base ++ ((part ∷ path) ++ key ∷ []) =
    append_assoc base (k ∷ []) (path ++ key ∷ []) ∙ ap (λ part. base ++ (part ∷ (path ++ key ∷ []))) edge.0 in
    ap (λ more. (base ++ k ∷ [], Bucket s) ∷ (more ++ []))
    (put_lists inside (base ++ k ∷ []) path key item edge.1 ∙ ap (λ path. listing_below (base ++ k ∷ []) inside ++ (path, item) ∷ []) same)
    ∙ ap (λ more. (base ++ k ∷ [], Bucket s) ∷ more) (moved (listing_below (base ++ k ∷ []) inside) (base ++ ((part ∷ path) ++ key ∷ []), item))
put_lists (with_bucket k s inside (with_value a b c)) base (part ∷ path) key item edge =
    grind (arith, append_assoc, put_lists (with_value a b c) base (part ∷ path) key item edge)
put_lists (with_bucket k s inside (with_bucket a b c d)) base (part ∷ path) key item edge =
    grind (arith, append_assoc, put_lists (with_bucket a b c d) base (part ∷ path) key item edge)

-- the tree isn't empty then
put_some : (tree : Tree) (path : Path) (key : Key) (item : Item) (Here Later : Type 0) → Later → fact_at_end (put_last tree path key item) Here Later
put_some end path key (Value value) Here Later is = is
put_some end path key (Bucket sequence) Here Later is = is
put_some (with_value k v after) path key item Here Later is = is
put_some (with_bucket k s inside after) [] key item Here Later is = is
put_some (with_bucket k s inside after) (part ∷ path) key item Here Later is = is

-- the buckets that the path goes through stay on the edge
pub front_on_edge : (tree : Tree) (front rest : Path) (key : Key) (item : Item) → OnEdge tree (front ++ rest)
    → OnEdge (put_last tree (front ++ rest) key item) front
front_on_edge tree [] rest key item edge = root_on_edge (put_last tree rest key item)
front_on_edge end (part ∷ front) rest key item edge = absurd edge
front_on_edge (with_value k v after) (part ∷ front) rest key item edge = front_on_edge after (part ∷ front) rest key item edge
front_on_edge (with_bucket k s inside end) (part ∷ front) rest key item edge = (edge.0, front_on_edge inside front rest key item edge.1)
front_on_edge (with_bucket k s inside (with_value a b c)) (part ∷ front) rest key item edge = front_on_edge (with_value a b c) (part ∷ front) rest key item edge
front_on_edge (with_bucket k s inside (with_bucket a b c d)) (part ∷ front) rest key item edge =
    front_on_edge (with_bucket a b c d) (part ∷ front) rest key item edge

-- and so is a new bucket
pub new_on_edge : (tree : Tree) (path : Path) (key : Key) (sequence : ℕ) → OnEdge tree path
    → OnEdge (put_last tree path key (Bucket sequence)) (path ++ key ∷ [])
new_on_edge end [] key sequence edge = (refl, tt)
new_on_edge end (part ∷ path) key sequence edge = absurd edge
new_on_edge (with_value k v after) path key sequence edge = new_on_edge after path key sequence edge
new_on_edge (with_bucket k s inside after) [] key sequence edge =
    put_some after [] key (Bucket sequence) ((k ≡ key) × OnEdge inside []) (OnEdge (put_last after [] key (Bucket sequence)) (key ∷ []))
    (new_on_edge after [] key sequence (root_on_edge after))
new_on_edge (with_bucket k s inside end) (part ∷ path) key sequence edge = (edge.0, new_on_edge inside path key sequence edge.1)
new_on_edge (with_bucket k s inside (with_value a b c)) (part ∷ path) key sequence edge = new_on_edge (with_value a b c) (part ∷ path) key sequence edge
new_on_edge (with_bucket k s inside (with_bucket a b c d)) (part ∷ path) key sequence edge = new_on_edge (with_bucket a b c d) (part ∷ path) key sequence edge
