use Rattle.bolt_load.proofs.FileBytes.{listing_of_bytes}
use Rattle.bolt_load.proofs.laws.a_files_listing_is_of_bytes.Goals as goal

pub returns : goal.returns
returns c = λ file meta listing bytes. listing_of_bytes file meta bytes (λ path item held. c.held_members_fit.ensures file meta path item bytes held) listing
