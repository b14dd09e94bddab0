use Rattle.std.proofs.Common.{◌∙◌, sym}
use Rattle.bolt_recover.proofs.JoinedLemmas.{joined_of}
use Rattle.bolt_recover.proofs.laws.joined_listing_is_one.Goals as goal

pub returns : goal.returns
returns c = λ file meta a b h k. joined_of file meta a k.recovered k.found h k.recovers k.are_found ∙ sym k.joined
