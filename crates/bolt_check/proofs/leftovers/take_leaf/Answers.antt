use Rattle.std.proofs.Common.{rules, arith, refl}
use Rattle.bolt_check.proofs.Words.{false≢true, get_or_default, IsClaimed, node_at}
use Rattle.bolt_check.proofs.LeafLemmas.{branch_unfilled, filled_lone, listed_none, node_in_table}
use Rattle.bolt_check.proofs.leftovers.take_leaf.Goals as goal
use Rattle.bolt_check.proofs.leftovers.take_leaf.Goals.{then-table-number-via-then-table-number}
use Rattle.bolt_check.proofs.leftovers.take_leaf.Goals.{then-table-number-via-else-table-number+then-is_listed}

pub returns-then-table-number-clause-none : goal.returns-then-table-number-clause-none
returns-then-table-number-clause-none c = search (rules, node_in_table, get_or_default, false≢true, listed_none)

pub returns-in-Ok-Leaf-clause-leaf : goal.returns-in-Ok-Leaf-clause-leaf
returns-in-Ok-Leaf-clause-leaf c =
    filled_lone (node_at c.args.file.now c.args.meta.now) (IsClaimed c.args.table.now) c.args.number (c.if-not-is_filled_leaf.ensures.filled refl)
    (rw c.root.ensures at c.in-Ok-Leaf.ensures.passes)

pub returns-in-Ok-Leaf-clause-unlisted : goal.returns-in-Ok-Leaf-clause-unlisted
returns-in-Ok-Leaf-clause-unlisted c = grind (arith, get_or_default)

pub returns-in-Ok-Branch-clause-none : goal.returns-in-Ok-Branch-clause-none
returns-in-Ok-Branch-clause-none c = grind (arith, branch_unfilled)

pub returns-in-Ok-Branch-clause-same : goal.returns-in-Ok-Branch-clause-same
returns-in-Ok-Branch-clause-same c = grind (arith, branch_unfilled)
