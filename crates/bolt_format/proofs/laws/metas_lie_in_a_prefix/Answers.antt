use Rattle.std.proofs.Common.{rules}
use Rattle.bolt_format.proofs.MetaPrefix.{chosen_same, first_fault_same, metas_back, same_metas, slot_fault_same, slot_same}
use Rattle.bolt_format.proofs.laws.metas_lie_in_a_prefix.Goals as goal

pub returns : goal.returns
returns c = search (rules, same_metas, chosen_same, metas_back, slot_same, first_fault_same, slot_fault_same)
