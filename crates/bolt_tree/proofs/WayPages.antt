-- The pages that ways lead to, as contents.
use Rattle.std.proofs.Common.{◌≡◌, ℕ, List, Some, Ok, ap, arith, length, refl, ◌∙◌, sym}
use Rattle.bolt_tree.proofs.Words.{BranchElement, Checked, HasSoundTrees, IsOnWay, IsTrue, Kind, LeafElement, Meta, Of_branch, Of_leaf, PageView}
use Rattle.bolt_tree.proofs.Words.{TreePage, branches_on, bytes_of, checked_trees, content_at, content_by, content_keys, content_length, content_of}
use Rattle.bolt_tree.proofs.Words.{content_seen, is_tree_kind, leaves_on, length-map, meta_of, node_at, opened_content, page_at, page_keys, props}
use Rattle.bolt_tree.proofs.Words.{shown_page, ∥∥₁_elim}
use Rattle.bolt_format.specs.declared.tree_page.TreePage.TheVariants.{Branch, Leaf}
use Rattle.bolt_format.specs.declared.header.Kind.TheVariants as kind
use Rattle.bolt_check.proofs.Exports as pages

-- what a page shows, by its number
pub content_shown : (file : List ℕ) (meta : Meta) (number : ℕ) (view : PageView) → page_at file meta number ≡ Some view
    → content_at file meta number ≡ content_of view
unfolding content_at
content_shown file meta number view at = ap content_seen at

pub content_is : (file : List ℕ) (meta : Meta) (number : ℕ) (view : PageView) (k : Kind) → page_at file meta number ≡ Some view → view.kind ≡ k
    → content_at file meta number ≡ content_by k view
content_is file meta number view k at is = content_shown file meta number view at ∙ ap (λ (x : Kind). content_by x view) is

-- the same, as the code opens it
pub content_opened : (file : List ℕ) (meta : Meta) (number : ℕ) (view : PageView) (page : TreePage) → page_at file meta number ≡ Some view
    → shown_page page ≡ view
    → opened_content page ≡ content_at file meta number
content_opened file meta number view page at shown = grind (arith, content_shown file meta number view)

-- its keys
pub keys_opened : (page : TreePage) → page_keys page ≡ content_keys (opened_content page)
keys_opened (Branch branch) = refl
keys_opened (Leaf leaf) = refl

pub length_keys : (page : TreePage) → length (page_keys page) ≡ content_length (opened_content page)
length_keys (Branch branch) = length-map (branches_on branch) (λ (e : BranchElement). e.key)
length_keys (Leaf leaf) = length-map (leaves_on leaf) (λ (e : LeafElement). e.key)

-- a page on a way is a leaf or a branch
pub data IsWayPage (file : List ℕ) (meta : Meta) (number : ℕ) : Type 0 where
  a_leaf : (view : PageView) → page_at file meta number ≡ Some view → view.kind ≡ kind.Leaf → node_at file meta number ≡ Ok (pages.leaf_node view)
      → content_at file meta number ≡ Of_leaf view.leaves → IsWayPage file meta number
  a_branch : (view : PageView) → page_at file meta number ≡ Some view → view.kind ≡ kind.Branch
      → node_at file meta number ≡ Ok (pages.branch_node view)
      → content_at file meta number ≡ Of_branch view.branches → IsWayPage file meta number

pub on_way_page : (file : List ℕ) (meta : Meta) (trees : HasSoundTrees file meta) (number depth : ℕ) → IsOnWay file meta number depth
    → IsWayPage file meta number
on_way_page file meta trees number depth on = elim (pages.on_way_page file meta trees number depth on) [
  | pages.a_leaf view at is node ↦ a_leaf view at is node (content_is file meta number view kind.Leaf at is)
  | pages.a_branch view at is node ↦ a_branch view at is node (content_is file meta number view kind.Branch at is)
]

-- the page of a branch
pub record IsBranchPage (file : List ℕ) (meta : Meta) (number : ℕ) (elements : List BranchElement) : Type 0 where
  pub view : PageView
  pub at : page_at file meta number ≡ Some view
  pub is : view.kind ≡ kind.Branch
  pub node : node_at file meta number ≡ Ok (pages.branch_node view)
  pub branches : view.branches ≡ elements

pub branch_page : (file : List ℕ) (meta : Meta) (trees : HasSoundTrees file meta) (number depth : ℕ) (elements : List BranchElement)
    → IsOnWay file meta number depth
    → content_at file meta number ≡ Of_branch elements → IsBranchPage file meta number elements
branch_page file meta trees number depth elements on shown = elim (on_way_page file meta trees number depth on) [
  | a_leaf view at is node content ↦ absurd (let c : Of_leaf view.leaves ≡ Of_branch elements = sym content ∙ shown in cc)
  | a_branch view at is node content ↦
      record { view = view; at = at; is = is; node = node; branches = (let c : Of_branch view.branches ≡ Of_branch elements = sym content ∙ shown in cc) }
]

-- the pages of the tree have its kinds
tree_kind_at : (file : List ℕ) (meta : Meta) (number : ℕ) (view : PageView) → IsWayPage file meta number → page_at file meta number ≡ Some view
    → IsTrue (is_tree_kind view.kind)
tree_kind_at file meta number view h e = grind arith

pub way_kind : (checked : Checked) (number : ℕ) (view : PageView) → ∥ ((depth : ℕ) × IsOnWay (bytes_of checked) (meta_of checked) number depth) ∥₁
    → page_at (bytes_of checked) (meta_of checked) number ≡ Some view → IsTrue (is_tree_kind view.kind)
way_kind checked number view on e = ∥∥₁_elim on (Prim.hlevel props) (λ (depth, w). ∥∥₁_elim (checked_trees checked) (Prim.hlevel props) (λ trees.
    tree_kind_at (bytes_of checked) (meta_of checked) number view (on_way_page (bytes_of checked) (meta_of checked) trees number depth w) e))
