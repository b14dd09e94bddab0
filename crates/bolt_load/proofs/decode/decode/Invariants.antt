-- The lines so far were decoded.
use Rattle.std.proofs.Common.{length}
use Rattle.bolt_load.proofs.DecodedLines.{HasDecoded}
use Rattle.bolt_load.proofs.decode.decode.Given as goal

abbrev pub invariant-loop-line : goal.invariant-loop-line
invariant-loop-line l = HasDecoded l.text l.rest l.bytes.items

abbrev pub decreases-loop-line : goal.decreases-loop-line
decreases-loop-line l = length l.rest
