-- A file with sound trees has a listing, which is that of its tree.
-- Rests on the tree of the root bucket (Nesting) and on what trees list (TreeListing).
use Rattle.std.proofs.Common.{arith, rules, ◌≡◌, ◌<◌, ℕ, List, Some}
use Rattle.bolt_tree.proofs.Words.{At_page, HasSoundTrees, IsEntry, IsListing, IsTreeOf, Member, Meta, PageSpot, Root_page, Tree, below_mark}
use Rattle.bolt_tree.proofs.Words.{file_tree, good_page, listing_of, node_at, reached, tree_of}
use Rattle.bolt_tree.proofs.{Nesting.root_tree, ReadBack.tree_back, Single.lists_once, TreeListing.tree_lists}

below : (file : List ℕ) (meta : Meta) → HasSoundTrees file meta → (w : List ℕ) (s : PageSpot)
    → reached (node_at file meta) meta.root w ≡ Some (At_page s) → s.number < meta.high_water
below file meta sound w s at = below_mark file meta s.number (good_page file meta w s sound at)

is_file_tree : (file : List ℕ) (meta : Meta) → HasSoundTrees file meta → IsTreeOf (IsEntry file meta) (Root_page meta.root) (file_tree file meta)
is_file_tree file meta sound = root_tree file meta sound (below file meta sound)

pub is_listing : (file : List ℕ) (meta : Meta) → HasSoundTrees file meta → IsListing file meta (listing_of (file_tree file meta))
is_listing file meta sound = tree_lists (IsEntry file meta) (Root_page meta.root) (file_tree file meta) (is_file_tree file meta sound)

pub has_listing : (file : List ℕ) (meta : Meta) → HasSoundTrees file meta → (listing : List Member) × IsListing file meta listing
has_listing file meta sound = (listing_of (file_tree file meta), is_listing file meta sound)

pub listing_tree : (file : List ℕ) (meta : Meta) (listing : List Member) → HasSoundTrees file meta → IsListing file meta listing
    → (tree : Tree) × IsTreeOf (IsEntry file meta) (Root_page meta.root) tree × (listing ≡ listing_of tree)
listing_tree file meta listing sound lists = search (rules, is_file_tree, lists_once, is_listing)

-- and the tree can be read off it
pub listing_back : (file : List ℕ) (meta : Meta) (listing : List Member) → HasSoundTrees file meta → IsListing file meta listing
    → listing_of (tree_of listing) ≡ listing
listing_back file meta listing sound lists = grind (arith, listing_tree, tree_back)
