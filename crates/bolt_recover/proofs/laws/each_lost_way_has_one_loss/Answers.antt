use Rattle.bolt_recover.proofs.{Words.lost, LostWays.loss_there, LostWays.number_of_losses, LostWays.site_of, LostWays.way_there}
use Rattle.bolt_recover.proofs.laws.each_lost_way_has_one_loss.Goals as goal

pub returns-clause-number : goal.returns-clause-number
returns-clause-number c = number_of_losses

pub returns-clause-loss : goal.returns-clause-loss
returns-clause-loss c = λ file meta survey way x is has.
    let (p, at) = site_of file meta survey is (lost way x) has in
    (p, at, loss_there file meta survey way x p has at)

pub returns-clause-way : goal.returns-clause-way
returns-clause-way c = λ file meta survey is l has.
    let (way, x, site, there, at, same) = way_there file meta survey l has in
    (way, x, there, (site, at, same))
