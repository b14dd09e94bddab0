use Rattle.bolt_recover.proofs.SoundListing.{sound_listing}
use Rattle.bolt_recover.proofs.laws.sound_trees_recover_their_listing.Goals as goal

pub returns : goal.returns
returns c = sound_listing
