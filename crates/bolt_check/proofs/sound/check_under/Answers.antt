use Rattle.std.proofs.Common.{arith}
use Rattle.bolt_check.proofs.{Words.merely, Shaping.shape_of}
use Rattle.bolt_check.proofs.sound.check_under.Goals as goal

pub invariant_of-result-clause-sound : goal.invariant_of-result-clause-sound
invariant_of-result-clause-sound c = grind (arith, merely, shape_of)
