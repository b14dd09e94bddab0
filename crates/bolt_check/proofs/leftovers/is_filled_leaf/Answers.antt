use Rattle.bolt_check.proofs.{LeafLemmas.leaf_filled, Words.shown_node}
use Rattle.std.proofs.Common.{◌∙◌, Ok, ap, sym}
use Rattle.std.specs.Prelude.{nat_lt}
use Rattle.bolt_check.proofs.leftovers.is_filled_leaf.Goals as goal

pub returns-in-Ok-Leaf-clause-filled : goal.returns-in-Ok-Leaf-clause-filled
returns-in-Ok-Leaf-clause-filled c more =
    leaf_filled _ c.in-Ok-Leaf.leaf (c.in-Ok-Leaf.ensures.node ∙ ap (λ page. Ok (shown_node page)) c.in-Ok-Leaf.field-0-is)
    (ap (nat_lt 0) (sym c.count.ensures) ∙ more)
