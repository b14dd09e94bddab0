use Rattle.std.proofs.Common.{Some}
use Rattle.bolt_recover.proofs.{Words.At_page, Words.node_at, Words.root_spot, KeptWays.first_is}
use Rattle.bolt_recover.proofs.laws.first_loss_is_the_first_finding.Goals as goal

pub returns : goal.returns
returns c = λ file meta survey way x surveys has none.
    first_is (node_at file meta) (Some (At_page (root_spot meta.root))) survey surveys way none x has
