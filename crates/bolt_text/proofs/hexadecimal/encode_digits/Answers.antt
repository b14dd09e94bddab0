use Rattle.std.proofs.Common.{rules, arith}
use Rattle.bolt_text.proofs.Vocabulary.{lower_digits}
use Rattle.hex.proofs.Pairs.{encode_done, encode_step}
use Rattle.bolt_text.proofs.hexadecimal.encode_digits.Goals as goal

pub loop-i-preserved : goal.loop-i-preserved
loop-i-preserved c = search (rules, encode_step, lower_digits)

pub returns : goal.returns
returns c = encode_done lower_digits _ _ c.loop-i.i (omega arith) (omega arith) c.loop-i.invariant
