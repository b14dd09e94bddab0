use Rattle.bolt_recover.proofs.JoinedLemmas.{tree_recovered}
use Rattle.bolt_recover.proofs.laws.recovered_listing_is_of_a_tree.Goals as goal

pub returns : goal.returns
returns c = tree_recovered
