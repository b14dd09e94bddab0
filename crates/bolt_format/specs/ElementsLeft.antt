-- What is left of the elements of a page.
use Rattle.std.specs.Prelude.{◌≡◌, IsTrue, List, [], ◌∷◌, Option, Some, None, drop}
use Rattle.bolt_format.specs.{ElementPlaces.branch_view, ElementPlaces.leaf_view, Elements.BranchElement, Elements.IsBucketValue}
use Rattle.bolt_format.specs.{Elements.LeafElement, TreePages.branches_on, TreePages.leaves_on}
use Rattle.bolt_format.specs.{declared.element.Branch.Branch, declared.element.Leaf.Leaf, declared.elements.Branches.Branches}
use Rattle.bolt_format.specs.{declared.elements.Leaves.Leaves}

unfoldable pub branches_left : Branches → List BranchElement
branches_left elements = drop elements.next (branches_on elements.page)

unfoldable pub leaves_left : Leaves → List LeafElement
leaves_left elements = drop elements.next (leaves_on elements.page)

-- The first one that was left is given, and the others are left; or none was left, and none is.
abbrev pub GivesBranch : Branches → Option Branch → Branches → Type 0
GivesBranch old (Some branch) new = branches_left old ≡ branch_view branch ∷ branches_left new
GivesBranch old None new = (branches_left old ≡ []) × (branches_left new ≡ [])

-- a bucket that is given has a bucket's value
abbrev pub GivesLeaf : Leaves → Option Leaf → Leaves → Type 0
GivesLeaf old (Some leaf) new = (leaves_left old ≡ leaf_view leaf ∷ leaves_left new) × (IsTrue leaf.is_bucket → IsBucketValue leaf.value.now)
GivesLeaf old None new = (leaves_left old ≡ []) × (leaves_left new ≡ [])
