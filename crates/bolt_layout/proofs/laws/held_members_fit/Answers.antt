use Rattle.bolt_layout.proofs.FileTrees.{held_fits}
use Rattle.bolt_layout.proofs.laws.held_members_fit.Goals as goal

pub returns : goal.returns
returns c = λ file meta path item bytes held. held_fits file meta bytes meta.root path item held
