use Rattle.bolt_tree.proofs.MergeLemmas.{merge_members}
use Rattle.bolt_tree.proofs.laws.merged_members_are_of_both.Goals as goal

pub returns : goal.returns
returns c = merge_members
