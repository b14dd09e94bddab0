use Rattle.bolt_check.proofs.TourLemmas.{one_tour}
use Rattle.bolt_check.proofs.laws.tour_is_one.Goals as goal

pub returns : goal.returns
returns c = one_tour
