use Rattle.bolt_recover.proofs.Existing.{recovers}
use Rattle.bolt_recover.specs.TheRecovered.{the_recovered}
use Rattle.bolt_recover.proofs.laws.the_recovered_listing_is_recovered.Goals as goal

pub returns : goal.returns
unfolding the_recovered
returns c = recovers
