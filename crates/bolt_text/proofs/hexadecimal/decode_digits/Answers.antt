use Rattle.std.proofs.Common.{rules}
use Rattle.bolt_text.proofs.DigitLemmas.{decoded, one_more}
use Rattle.bolt_text.proofs.hexadecimal.decode_digits.Goals as goal

pub loop-i-preserved : goal.loop-i-preserved
loop-i-preserved c = search (rules, one_more)

pub returns : goal.returns
returns c = search (rules, decoded)
