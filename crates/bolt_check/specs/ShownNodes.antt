-- A page of the code as a node.
use Rattle.std.specs.Prelude.{◌≡◌, ℕ, Bool, true, false, List, map, Some, Ok, Err}
use Rattle.bolt_format.specs.{TreePages.branches_on, TreePages.leaves_on, TreePages.shown_page, declared.tree_page.TreePage.TreePage}
use Rattle.bolt_format.specs.declared.tree_page.TreePage.TheVariants.{Branch, Leaf}
use Rattle.bolt_format.specs.{Pages.page_at, declared.meta.Meta.Meta, declared.page_fault.PageFault.PageFault}
use Rattle.bolt_check.specs.{Nodes.Entry, Nodes.Node, Nodes.Nodes, Nodes.branch_entry, Nodes.leaf_entry}

abbrev pub is_leaf_page : TreePage → Bool
is_leaf_page (Branch page) = false
is_leaf_page (Leaf page) = true

abbrev pub entries_on : TreePage → List Entry
entries_on (Branch page) = map branch_entry (branches_on page)
entries_on (Leaf page) = map leaf_entry (leaves_on page)

unfoldable pub shown_node : TreePage → Node
shown_node page = record {
  is_leaf = is_leaf_page page;
  overflow = (shown_page page).overflow;
  entries = entries_on page;
}

-- a page of the code is node n
abbrev pub IsNodeAt : Nodes → ℕ → TreePage → Type 0
IsNodeAt nodes n page = nodes n ≡ Ok (shown_node page)

-- a page of the code is page n of the file
abbrev pub IsPageAt : List ℕ → Meta → ℕ → TreePage → Type 0
IsPageAt file meta n page = page_at file meta n ≡ Some (shown_page page)

-- why page n is no node
abbrev pub IsFaultAt : Nodes → ℕ → PageFault → Type 0
IsFaultAt nodes n fault = (nodes n ≡ Err fault.number) × (fault.page ≡ n)
