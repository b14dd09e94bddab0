-- What a page of a tree shows: docs/FORMAT.md, "Elements".
use Rattle.std.specs.Prelude.{ℕ, Bool, true, false, List, [], length, map}
use Rattle.bolt_format.specs.{Elements.BranchElement, Elements.LeafElement, Elements.branch_elements, Elements.leaf_elements, Pages.PageView}
use Rattle.bolt_format.specs.{declared.tree_page.BranchPage.BranchPage}
use Rattle.bolt_format.specs.{declared.tree_page.LeafPage.LeafPage, declared.tree_page.TreePage.TreePage}
use Rattle.bolt_format.specs.{declared.tree_page.TreePage.TheVariants.Branch, declared.tree_page.TreePage.TheVariants.Leaf}
use Rattle.bolt_format.specs.declared.header.Kind.{Kind}
use Rattle.bolt_format.specs.declared.header.Kind.TheVariants as kind

unfoldable pub branches_on : BranchPage → List BranchElement
branches_on page = branch_elements page.bytes.now page.count

unfoldable pub branch_overflow : BranchPage → ℕ
branch_overflow page = page.overflow

unfoldable pub leaves_on : LeafPage → List LeafElement
leaves_on page = leaf_elements page.bytes.now page.count

unfoldable pub leaf_overflow : LeafPage → ℕ
leaf_overflow page = page.overflow

-- a page of the code as a page of a file
abbrev pub shown_page : TreePage → PageView
shown_page (Branch page) = record {
  kind = kind.Branch;
  count = length (branches_on page);
  overflow = branch_overflow page;
  branches = branches_on page;
  leaves = [];
}
shown_page (Leaf page) = record {
  kind = kind.Leaf;
  count = length (leaves_on page);
  overflow = leaf_overflow page;
  branches = [];
  leaves = leaves_on page;
}

-- the keys of a page's elements
abbrev pub page_keys : TreePage → List (List ℕ)
page_keys (Branch page) = map (λ (e : BranchElement). e.key) (branches_on page)
page_keys (Leaf page) = map (λ (e : LeafElement). e.key) (leaves_on page)

-- the kinds of page that a tree has
abbrev pub is_tree_kind : Kind → Bool
is_tree_kind kind.Branch = true
is_tree_kind kind.Leaf = true
is_tree_kind kind.Meta = false
is_tree_kind kind.Freelist = false
