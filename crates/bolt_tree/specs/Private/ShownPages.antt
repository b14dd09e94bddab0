-- What a page on the stack shows.
use Rattle.bolt_format.specs.{TreePages.branches_on, TreePages.leaves_on, declared.tree_page.TreePage.TreePage}
use Rattle.bolt_format.specs.declared.tree_page.TreePage.TheVariants.{Branch, Leaf}
use Rattle.bolt_tree.specs.Private.Contents.{Content, Of_branch, Of_leaf}

abbrev pub opened_content : TreePage → Content
opened_content (Branch page) = Of_branch (branches_on page)
opened_content (Leaf page) = Of_leaf (leaves_on page)
