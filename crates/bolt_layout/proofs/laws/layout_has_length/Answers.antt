use Rattle.bolt_layout.proofs.Soundness.{layout_length}
use Rattle.bolt_layout.proofs.laws.layout_has_length.Goals as goal

pub returns : goal.returns
returns c = layout_length
