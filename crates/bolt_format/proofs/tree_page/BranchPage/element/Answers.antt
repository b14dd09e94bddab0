use Rattle.std.proofs.Common.{◌∙◌, ◌<◌, ℕ, List, Some, ap, arith, length, sym}
use Rattle.bolt_format.specs.{Elements.branch_element, Elements.branch_elements, TreePages.branches_on}
use Rattle.bolt_format.proofs.GoodPages.{good_branch, length-branch_elements, slice_get-made}
use Rattle.bolt_format.proofs.tree_page.BranchPage.element.Goals as goal

below_count : (bytes : List ℕ) (count i : ℕ) → i < length (branch_elements bytes count) → i < count
below_count bytes count i h = omega (arith, length-branch_elements bytes count)

pub branch_at-requires-clause-table : goal.branch_at-requires-clause-table
unfolding branches_on
branch_at-requires-clause-table c = (good_branch _ _ c.args.i c.args.self.now.good (below_count _ _ _ c.requires)).0

pub branch_at-requires-clause-data : goal.branch_at-requires-clause-data
unfolding branches_on
branch_at-requires-clause-data c = (good_branch _ _ c.args.i c.args.self.now.good (below_count _ _ _ c.requires)).1

pub returns : goal.returns
unfolding branches_on branch_elements
returns c =
    let page = c.args.self.now in
    slice_get-made (branch_element page.bytes.now) page.count c.args.i (below_count _ _ _ c.requires) ∙ ap Some (sym c.branch_at.ensures)
