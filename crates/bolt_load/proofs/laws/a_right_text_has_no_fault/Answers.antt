use Rattle.bolt_load.proofs.RightTexts.{no_fault}
use Rattle.bolt_load.proofs.laws.a_right_text_has_no_fault.Goals as goal

pub returns : goal.returns
returns c = no_fault
