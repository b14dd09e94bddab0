-- A fault of the lines that were decoded is one of the text.
use Rattle.std.proofs.Common.{arith}
use Rattle.std.proofs.lemmas.Grind.{common_steps}
use Rattle.bolt_load.proofs.{ReadTexts.earlier_fault, ReadTexts.reported}
use Rattle.bolt_load.proofs.listing_text.ListingText.read.Goals as goal

pub returns-in_err-lines-clause-fault : goal.returns-in_err-lines-clause-fault
returns-in_err-lines-clause-fault c = grind (arith, common_steps, reported, earlier_fault)
