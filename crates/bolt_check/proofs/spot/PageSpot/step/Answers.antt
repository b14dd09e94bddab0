use Rattle.std.proofs.Common.{◌∙◌, sym}
use Rattle.bolt_check.proofs.{Words.leaf_entry, Words.leaf_view, Words.page_spot, NodeLemmas.leaf-entry, NodeLemmas.step-leaf}
use Rattle.bolt_check.proofs.spot.PageSpot.step.Goals as goal

pub returns-in-Leaf-clause-leads : goal.returns-in-Leaf-clause-leads
returns-in-Leaf-clause-leads c =
    let element = leaf_view c.element.result in
    rw c.in-Leaf.is
    (c.bucket.ensures.leads
    ∙ sym (step-leaf c.in-Leaf.leaf (page_spot c.args.self.now) c.args.i (leaf_entry element)
    (leaf-entry c.in-Leaf.leaf c.args.i element c.element.ensures.element)))
