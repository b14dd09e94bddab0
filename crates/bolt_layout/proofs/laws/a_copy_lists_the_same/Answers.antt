use Rattle.std.proofs.Common.{arith}
use Rattle.bolt_layout.proofs.laws.a_copy_lists_the_same.Goals as goal

pub returns : goal.returns
returns c = grind arith
