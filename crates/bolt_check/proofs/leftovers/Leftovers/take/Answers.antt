use Rattle.std.proofs.lemmas.Grind.{common_steps}
use Rattle.std.proofs.Common.{◌∙◌, ap, arith, length}
use Rattle.bolt_lemmas.proofs.Exports.{if_none}
use Rattle.bolt_check.specs.Leftovers.{is_listed, is_taken, leftovers_length, leftovers_viewers}
use Rattle.bolt_check.proofs.{LeafLemmas.none_listed, Visited.stored}
use Rattle.bolt_check.proofs.leftovers.Leftovers.take.Goals as goal

pub returns-clause-length : goal.returns-clause-length
unfolding leftovers_length
returns-clause-length c =
    ap length (stored c.args.self.now.table _ _ c.deref_mut.ensures.value c.take_leaf.auto.table) ∙ c.take_leaf.auto.table ∙ ap length c.deref_mut.ensures.value

pub returns-clause-leaf : goal.returns-clause-leaf
unfolding leftovers_viewers
returns-clause-leaf c = rw c.deref_mut.ensures.value at c.take_leaf.ensures.leaf

pub returns-clause-none : goal.returns-clause-none
unfolding leftovers_viewers
returns-clause-none c = if_none c.take_leaf.result (λ no lone free. no lone (none_listed _ free)) (rw c.deref_mut.ensures.value at c.take_leaf.ensures.none)

pub returns-clause-taken : goal.returns-clause-taken
unfolding leftovers_viewers
returns-clause-taken c = grind (arith, common_steps)

pub returns-clause-same : goal.returns-clause-same
unfolding is_taken
returns-clause-same c = grind (arith, stored, if_none)

pub returns-clause-noted : goal.returns-clause-noted
unfolding is_listed is_taken
returns-clause-noted c = grind (arith, stored)
