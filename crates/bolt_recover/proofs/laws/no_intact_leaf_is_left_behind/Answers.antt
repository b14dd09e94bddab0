use Rattle.bolt_recover.proofs.FoundAll.{shares}
use Rattle.bolt_recover.proofs.laws.no_intact_leaf_is_left_behind.Goals as goal

pub returns : goal.returns
returns c = λ file meta survey way x is has found n are. shares file meta found survey way x n are is has
