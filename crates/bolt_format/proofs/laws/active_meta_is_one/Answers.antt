use Rattle.bolt_format.proofs.MetaLemmas.{IsActive-one}
use Rattle.bolt_format.proofs.laws.active_meta_is_one.Goals as goal

pub returns : goal.returns
returns c = IsActive-one
