use Rattle.std.proofs.Common.{length}
use Rattle.bolt_text.proofs.Vocabulary.{encode_lower, WroteFront}
use Rattle.bolt_text.proofs.hexadecimal.put_hex_parts.Given as goal

-- the digits of the rest are still to be written
abbrev pub invariant-loop-rest : goal.invariant-loop-rest
invariant-loop-rest g l = WroteFront g.S.Sink l.initial.sink l.sink (encode_lower l.bytes) (encode_lower l.rest)

abbrev pub decreases-loop-rest : goal.decreases-loop-rest
decreases-loop-rest g l = length l.rest
