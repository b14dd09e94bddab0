use Rattle.bolt_layout.proofs.TwoChildren.{layout_twos}
use Rattle.bolt_layout.proofs.laws.balanced_branches_have_two.Goals as goal

pub returns : goal.returns
returns c = layout_twos
