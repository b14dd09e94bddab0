use Rattle.bolt_layout.proofs.HeldBounds.{held_bounded, layout_small}
use Rattle.std.proofs.Common.{arith}
use Rattle.bolt_layout.proofs.laws.held_is_bounded.Goals as goal

pub returns : goal.returns
returns c = grind (arith, layout_small, held_bounded)
