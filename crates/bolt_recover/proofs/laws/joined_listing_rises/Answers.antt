use Rattle.bolt_recover.proofs.JoinedOrder.{joined_rises}
use Rattle.bolt_recover.proofs.laws.joined_listing_rises.Goals as goal

pub returns : goal.returns
returns c = λ file meta small room listing is. joined_rises file meta listing is small room
