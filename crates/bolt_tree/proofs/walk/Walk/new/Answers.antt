use Rattle.std.proofs.Common.{arith, ap}
use Rattle.bolt_tree.proofs.{Words.path_of, Walking.all_ahead, Walking.begins}
use Rattle.bolt_tree.specs.Walks.{left_of}
use Rattle.bolt_tree.proofs.walk.Walk.new.Goals as goal

pub returns-clause-all : goal.returns-clause-all
unfolding left_of
returns-clause-all c = λ listing lists. all_ahead c.args.checked (path_of c.new.result.path.items) (ap path_of c.new.ensures.path) listing lists

pub invariant_of-result : goal.invariant_of-result
invariant_of-result c = grind (arith, begins)
