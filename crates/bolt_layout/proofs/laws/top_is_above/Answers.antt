use Rattle.bolt_layout.proofs.Tops.{top_above}
use Rattle.bolt_layout.proofs.laws.top_is_above.Goals as goal

pub returns : goal.returns
returns c = top_above
