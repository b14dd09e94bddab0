use Rattle.std.proofs.Common.{◌≡◌, ℕ, List, [], refl}
use Rattle.bolt_format.specs.{Elements.branch_elements, Elements.leaf_elements, Pages.view_of, ShownGoodPages.shown}
use Rattle.bolt_format.specs.{TreePages.branch_overflow, TreePages.branches_on, TreePages.leaf_overflow, TreePages.leaves_on}
use Rattle.bolt_format.specs.{declared.header.Kind.Kind}
use Rattle.bolt_format.specs.declared.header.Kind.TheVariants as kind
use Rattle.bolt_format.proofs.GoodPages.{length-branch_elements, length-leaf_elements}
use Rattle.bolt_format.proofs.good_page.Page.tree_page.Goals as goal

branch_shown : (k : Kind) (count overflow n : ℕ) (bytes : List ℕ) → k ≡ kind.Branch → n ≡ count
    → record { kind = kind.Branch; count = n; overflow = overflow; branches = branch_elements bytes count; leaves = [] } ≡ view_of k count overflow bytes
branch_shown k count overflow n bytes is counted = rw is (rw counted refl)

leaf_shown : (k : Kind) (count overflow n : ℕ) (bytes : List ℕ) → k ≡ kind.Leaf → n ≡ count
    → record { kind = kind.Leaf; count = n; overflow = overflow; branches = []; leaves = leaf_elements bytes count } ≡ view_of k count overflow bytes
leaf_shown k count overflow n bytes is counted = rw is (rw counted refl)

pub returns-in-Branch-clause-some : goal.returns-in-Branch-clause-some
unfolding shown branches_on branch_overflow
returns-in-Branch-clause-some c = branch_shown _ _ _ _ _ c.in-Branch.is (length-branch_elements c.args.self.now.span.now c.args.self.now.count)

pub returns-in-Leaf-clause-some : goal.returns-in-Leaf-clause-some
unfolding shown leaves_on leaf_overflow
returns-in-Leaf-clause-some c = leaf_shown _ _ _ _ _ c.in-Leaf.is (length-leaf_elements c.args.self.now.span.now c.args.self.now.count)
