use Rattle.std.proofs.Common.{◌-◌, length}
use Rattle.bolt_repair.specs.Keyed.{HaveLesserKeys}
use Rattle.bolt_repair.proofs.candidates.has_candidate.Given as goal

-- the candidates so far have lesser keys
abbrev pub invariant-loop-i : goal.invariant-loop-i
invariant-loop-i l = HaveLesserKeys l.key l.candidates l.i

abbrev pub decreases-loop-i : goal.decreases-loop-i
decreases-loop-i l = length l.candidates - l.i
