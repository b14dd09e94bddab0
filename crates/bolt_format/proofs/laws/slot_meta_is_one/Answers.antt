use Rattle.bolt_format.proofs.MetaLemmas.{IsInSlot-one}
use Rattle.bolt_format.proofs.laws.slot_meta_is_one.Goals as goal

pub returns : goal.returns
returns c = IsInSlot-one
