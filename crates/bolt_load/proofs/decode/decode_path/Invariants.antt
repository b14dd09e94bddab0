-- The bytes of the parts so far were added.
use Rattle.std.proofs.Common.{length}
use Rattle.bolt_load.proofs.PathLemmas.{AddsParts}
use Rattle.bolt_load.proofs.decode.decode_path.Given as goal

abbrev pub invariant-loop-part : goal.invariant-loop-part
invariant-loop-part l = AddsParts l.word l.rest l.initial.bytes.items l.bytes.items

abbrev pub decreases-loop-part : goal.decreases-loop-part
decreases-loop-part l = length l.rest
