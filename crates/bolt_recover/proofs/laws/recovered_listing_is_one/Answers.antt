use Rattle.bolt_recover.proofs.Existing.{one_recovered}
use Rattle.bolt_recover.proofs.laws.recovered_listing_is_one.Goals as goal

pub returns : goal.returns
returns c = one_recovered
