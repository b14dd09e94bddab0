use Rattle.std.proofs.Common.{◌∙◌, ◌<◌, ℕ, List, ap, arith, length, sym}
use Rattle.std.proofs.lemmas.Option.{same_Some}
use Rattle.bolt_format.specs.{Elements.LeafElement, Elements.leaf_element, Elements.leaf_elements, TreePages.leaves_on}
use Rattle.bolt_format.proofs.GoodPages.{length-leaf_elements, no_bucket-at, slice_get-made}
use Rattle.bolt_format.proofs.bucket_value.Inline.leaf.Goals as goal

below_count : (bytes : List ℕ) (count i : ℕ) → i < length (leaf_elements bytes count) → i < count
below_count bytes count i h = omega (arith, length-leaf_elements bytes count)

pub returns-clause-flat : goal.returns-clause-flat
unfolding leaves_on leaf_elements
returns-clause-flat c =
    let page = c.args.self.now.page in
    let below = below_count page.bytes.now page.count c.args.i c.requires in
    let same = same_Some _ _ (sym (slice_get-made (leaf_element page.bytes.now) page.count c.args.i below) ∙ c.element.ensures.element) in
    ap (λ (e : LeafElement). e.is_bucket) (sym same) ∙ no_bucket-at page.bytes.now page.count c.args.i c.args.self.now.flat below
