-- A found page of the code: the page that the file has under its number, a leaf with an element.
use Rattle.std.specs.Prelude.{◌≡◌, ◌≢◌, ℕ, List, [], Ok, Some}
use Rattle.bolt_format.specs.{Pages.page_at, TreePages.shown_page, TreePages.leaves_on, declared.meta.Meta.Meta}
use Rattle.bolt_format.specs.{declared.tree_page.TreePage.TheVariants.Leaf}
use Rattle.bolt_check.specs.{Nodes.node_at, ShownNodes.shown_node}
use Rattle.bolt_recover.specs.declared.found_page.FoundPage.{FoundPage}

pub record IsFoundView (file : List ℕ) (meta : Meta) (found : FoundPage) : Type 0 where
  pub page : page_at file meta found.number ≡ Some (shown_page (Leaf found.page))
  pub node : node_at file meta found.number ≡ Ok (shown_node (Leaf found.page))
  pub some : leaves_on found.page ≢ []
