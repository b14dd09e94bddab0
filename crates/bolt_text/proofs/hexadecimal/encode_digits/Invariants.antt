-- The digits so far, and then those of the bytes that are left, are those of all.
use Rattle.std.proofs.Common.{◌≡◌, ◌*◌, ◌++◌, take, drop}
use Rattle.bolt_text.proofs.Vocabulary.{encode_lower}
use Rattle.bolt_text.proofs.hexadecimal.encode_digits.Given as goal

abbrev pub invariant-loop-i : goal.invariant-loop-i
invariant-loop-i l = take (2 * l.i) l.digits ++ encode_lower (drop l.i l.bytes) ≡ encode_lower l.bytes
