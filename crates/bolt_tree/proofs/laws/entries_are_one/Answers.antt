use Rattle.bolt_tree.proofs.RisingEntries.{entries_once}
use Rattle.bolt_tree.proofs.laws.entries_are_one.Goals as goal

pub returns : goal.returns
returns c = entries_once
