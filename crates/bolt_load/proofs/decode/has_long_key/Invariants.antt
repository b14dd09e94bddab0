-- No part so far is long.
use Rattle.std.proofs.Common.{length}
use Rattle.bolt_load.proofs.PathLemmas.{HasShort}
use Rattle.bolt_load.proofs.decode.has_long_key.Given as goal

abbrev pub invariant-loop-part : goal.invariant-loop-part
invariant-loop-part l = HasShort l.word l.rest

abbrev pub decreases-loop-part : goal.decreases-loop-part
decreases-loop-part l = length l.rest
