use Rattle.bolt_load.proofs.PlainLines.{text_plain}
use Rattle.bolt_load.proofs.laws.a_text_is_that_of_its_listing.Goals as goal

pub returns : goal.returns
returns c = text_plain
