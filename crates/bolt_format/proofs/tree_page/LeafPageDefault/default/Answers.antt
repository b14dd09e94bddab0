use Rattle.std.proofs.Common.{refl}
use Rattle.bolt_format.specs.Elements.{leaves_fault}
use Rattle.bolt_format.proofs.tree_page.LeafPageDefault.default.Goals as goal

pub invariant_of-result : goal.invariant_of-result
unfolding leaves_fault
invariant_of-result c = record { good = refl }
