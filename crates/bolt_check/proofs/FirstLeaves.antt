-- The depth of the first leaf below a page, by the elements of the page.
use Rattle.std.proofs.Common.{◌≡◌, ◌∙◌, ℕ, suc, false, inl, List, [], ◌∷◌, Option, Some, Ok, ap, length, map, refl, slice_get}
use Rattle.bolt_check.proofs.{Words.branch_entry, Words.BranchElement, Words.Has, Words.Nodes, Words.none-some, Words.shown_node}
use Rattle.bolt_check.proofs.{TourSums.enough_kids}
use Rattle.bolt_check.specs.{BboltFindings.above_first, BboltFindings.first_child, BboltFindings.first_leaf_depth, BboltFindings.node_depth}
use Rattle.bolt_check.specs.{Private.Unread.IsGoodDown, Subtrees.kid_pages}
use Rattle.bolt_format.specs.{TreePages.branches_on, declared.tree_page.BranchPage.BranchPage, declared.tree_page.LeafPage.LeafPage}
use Rattle.bolt_format.specs.declared.tree_page.TreePage.TheVariants.{Branch, Leaf}

-- ---- the first element of a branch

first_entry : (elements : List BranchElement) (e : BranchElement) → slice_get elements 0 ≡ Some e
    → first_child (map branch_entry elements) ≡ Some e.child
first_entry [] e at = absurd (none-some e at)
first_entry (x ∷ elements) e at = let same : x ≡ e = cc in ap (λ (y : BranchElement). Some y.child) same

first_kid : (elements : List BranchElement) (e : BranchElement) → slice_get elements 0 ≡ Some e
    → Has (kid_pages false (map branch_entry elements)) e.child
first_kid [] e at = absurd (none-some e at)
first_kid (x ∷ elements) e at = let same : x ≡ e = cc in inl (ap (λ (y : BranchElement). y.child) same)

no_entry : (elements : List BranchElement) → length elements ≡ 0 → first_child (map branch_entry elements) ≡ Option.None
no_entry [] none = refl
no_entry (x ∷ elements) none = absurd (cc)

-- ---- the depth, if so many branches are left

module _ (nodes : Nodes) (branches left number : ℕ) (more : branches ≡ suc left) where
  pub leaf_ends : (page : LeafPage) → nodes number ≡ Ok (shown_node (Leaf page)) → first_leaf_depth nodes branches number ≡ 1
  unfolding first_leaf_depth shown_node
  leaf_ends page at = rw more (ap (node_depth (first_leaf_depth nodes left)) at)

  pub empty_ends : (page : BranchPage) → nodes number ≡ Ok (shown_node (Branch page)) → length (branches_on page) ≡ 0
      → first_leaf_depth nodes branches number ≡ 1
  unfolding first_leaf_depth shown_node
  empty_ends page at none =
      rw more (ap (node_depth (first_leaf_depth nodes left)) at ∙ ap (above_first (first_leaf_depth nodes left)) (no_entry (branches_on page) none))

  pub branch_goes_on : (page : BranchPage) (e : BranchElement) → nodes number ≡ Ok (shown_node (Branch page))
      → slice_get (branches_on page) 0 ≡ Some e
      → first_leaf_depth nodes branches number ≡ suc (first_leaf_depth nodes left e.child)
  unfolding first_leaf_depth shown_node
  branch_goes_on page e at first =
      rw more (ap (node_depth (first_leaf_depth nodes left)) at ∙ ap (above_first (first_leaf_depth nodes left)) (first_entry (branches_on page) e first))

-- the first child is good with all pages below it
pub child_good : (nodes : Nodes) (number : ℕ) (page : BranchPage) (e : BranchElement) → nodes number ≡ Ok (shown_node (Branch page))
    → slice_get (branches_on page) 0 ≡ Some e
    → IsGoodDown nodes number → IsGoodDown nodes e.child
unfolding shown_node
child_good nodes number page e at first (steps, enough) =
    (steps, enough_kids nodes steps number (shown_node (Branch page)) at enough e.child (first_kid (branches_on page) e first))
