-- The bytes so far are those of the digits before the ones that are left.
use Rattle.bolt_text.proofs.DigitLemmas.{DecodedTo}
use Rattle.bolt_text.proofs.hexadecimal.decode_digits.Given as goal

abbrev pub invariant-loop-i : goal.invariant-loop-i
invariant-loop-i l = DecodedTo l.digits l.out l.i l.all
