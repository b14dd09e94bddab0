-- The parts so far were found.
use Rattle.std.proofs.Common.{length}
use Rattle.bolt_load.proofs.{Words.path_of, PushedParts.PushesParts}
use Rattle.bolt_load.proofs.line_members.push_parts.Given as goal

abbrev pub invariant-loop-part : goal.invariant-loop-part
invariant-loop-part l = PushesParts l.word l.word_left l.bytes l.bytes_left (path_of l.initial.path.items) (path_of l.path.items)

abbrev pub decreases-loop-part : goal.decreases-loop-part
decreases-loop-part l = length l.word_left
