use Rattle.bolt_layout.proofs.Tops.{overflow_is}
use Rattle.bolt_layout.proofs.laws.overflow_is_least.Goals as goal

pub returns : goal.returns
returns c = overflow_is
