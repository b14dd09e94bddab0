use Rattle.std.proofs.Common.{◌∙◌, ◌<◌, ℕ, List, Some, ap, arith, length, subst, sym}
use Rattle.bolt_format.specs.{Elements.IsBucketValue, Elements.LeafElement, Elements.leaf_element, Elements.leaf_elements, Elements.value_fault}
use Rattle.bolt_format.specs.{TreePages.leaves_on}
use Rattle.bolt_format.proofs.GoodPages.{good_leaf, length-leaf_elements, slice_get-made}
use Rattle.bolt_format.proofs.tree_page.LeafPage.element.Goals as goal

below_count : (bytes : List ℕ) (count i : ℕ) → i < length (leaf_elements bytes count) → i < count
below_count bytes count i h = omega (arith, length-leaf_elements bytes count)

pub leaf_at-requires-clause-table : goal.leaf_at-requires-clause-table
unfolding leaves_on
leaf_at-requires-clause-table c = (good_leaf value_fault _ _ c.args.i c.args.self.now.good (below_count _ _ _ c.requires)).0

pub leaf_at-requires-clause-data : goal.leaf_at-requires-clause-data
unfolding leaves_on
leaf_at-requires-clause-data c = (good_leaf value_fault _ _ c.args.i c.args.self.now.good (below_count _ _ _ c.requires)).1

pub returns-clause-element : goal.returns-clause-element
unfolding leaves_on leaf_elements
returns-clause-element c =
    let page = c.args.self.now in
    slice_get-made (leaf_element page.bytes.now) page.count c.args.i (below_count _ _ _ c.requires) ∙ ap Some (sym c.leaf_at.ensures)

pub returns-clause-bucket : goal.returns-clause-bucket
unfolding leaves_on
returns-clause-bucket c h =
    let good = (good_leaf value_fault _ _ c.args.i c.args.self.now.good (below_count _ _ _ c.requires)).2 in
    subst IsBucketValue (ap (λ (e : LeafElement). e.value) (sym c.leaf_at.ensures)) (good (ap (λ (e : LeafElement). e.is_bucket) (sym c.leaf_at.ensures) ∙ h))
