-- A tree of buckets as data, apart from pages, and what it lists: docs/LISTING.md, "The listing". It shows the sorted entries of a bucket,
-- and of each bucket among them; and it can be computed from its listing.
use Rattle.std.specs.Prelude.{◌≡◌, ℕ, true, false, List, [], ◌∷◌, ◌++◌}
use Rattle.bolt_format.specs.Elements.{LeafElement, head_sequence}
use Rattle.bolt_tree.specs.{Entries.AreEntries, Entries.Bucket, Entries.Item, Entries.Start, Entries.Value, Entries.start_of, Listing.Member}
use Rattle.bolt_tree.specs.{Paths.Path}

-- the entries of a bucket in order: each a key with a value, or a key with a bucket, which has a sequence and entries of its own
pub data Tree : Type 0 where
  end : Tree
  with_value : (key value : List ℕ) → (after : Tree) → Tree
  with_bucket : (key : List ℕ) → (sequence : ℕ) → (inside after : Tree) → Tree

-- the members below a path: an entry, what it holds, and then the entries after it
abbrev pub listing_below : Path → Tree → List Member
listing_below path end = []
listing_below path (with_value key value after) = (path ++ key ∷ [], Value value) ∷ listing_below path after
listing_below path (with_bucket key sequence inside after) =
    (path ++ key ∷ [], Bucket sequence) ∷ (listing_below (path ++ key ∷ []) inside ++ listing_below path after)

abbrev pub listing_of : Tree → List Member
listing_of tree = listing_below [] tree

-- the tree shows these entries, and of each bucket among them the entries that it has in order
abbrev pub Shows : (Start → LeafElement → Type 0) → Tree → List LeafElement → Type 0
Shows Entry end [] = Unit {0}
Shows Entry end (e ∷ entries) = ⊥
Shows Entry (with_value key value after) [] = ⊥
Shows Entry (with_value key value after) (e ∷ entries) = (e.is_bucket ≡ false) × (e.key ≡ key) × (e.value ≡ value) × Shows Entry after entries
Shows Entry (with_bucket key sequence inside after) [] = ⊥
Shows Entry (with_bucket key sequence inside after) (e ∷ entries) =
    (e.is_bucket ≡ true) × (e.key ≡ key) × (head_sequence e.value ≡ sequence)
    × ((own : List LeafElement) × AreEntries Entry (start_of e.value) own × Shows Entry inside own) × Shows Entry after entries

-- the tree of a bucket
abbrev pub IsTreeOf : (Start → LeafElement → Type 0) → Start → Tree → Type 0
IsTreeOf Entry bucket tree = (entries : List LeafElement) × AreEntries Entry bucket entries × Shows Entry tree entries

-- Back again. The trees of a listing are its entries by depth: those of the outermost bucket, and then, for each bucket further in, those
-- that come before the next member of a bucket further out.
abbrev pub first_tree : List Tree → Tree
first_tree [] = end
first_tree (tree ∷ trees) = tree

abbrev pub later_trees : List Tree → List Tree
later_trees [] = []
later_trees (tree ∷ trees) = trees

-- a member goes to the front of the tree at its depth; a bucket takes the tree below it
abbrev pub put_first : Path → Item → List Tree → List Tree
put_first [] item trees = trees
put_first (key ∷ []) (Value value) trees = with_value key value (first_tree trees) ∷ []
put_first (key ∷ []) (Bucket sequence) trees = with_bucket key sequence (first_tree (later_trees trees)) (first_tree trees) ∷ []
put_first (part ∷ next ∷ path) item trees = first_tree trees ∷ put_first (next ∷ path) item (later_trees trees)

abbrev pub trees_by_depth : List Member → List Tree
trees_by_depth [] = []
trees_by_depth (member ∷ listing) = put_first member.0 member.1 (trees_by_depth listing)

-- the tree that has this listing
abbrev pub tree_of : List Member → Tree
tree_of listing = first_tree (trees_by_depth listing)
