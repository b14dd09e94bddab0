use Rattle.std.proofs.Common.{sym}
use Rattle.std.proofs.{lemmas.Bool.eqb-true, lemmas.List.nil_from_length}
use Rattle.bolt_text.proofs.{Vocabulary.front_more, Vocabulary.front_whole, HexStrings.next_digits, HexStrings.no_digits, ReportLemmas.front_broken}
use Rattle.bolt_text.proofs.hexadecimal.put_hex_parts.Goals as goal

pub returns-in_err-put_hex_part : goal.returns-in_err-put_hex_part
returns-in_err-put_hex_part g c =
    front_broken _ _ c.loop-rest.invariant c.in_err-put_hex_part.ensures (next_digits c.loop-rest.rest.now c.min-part_len.result) c.from_residual.ensures.0

pub returns : goal.returns
returns g c = front_whole c.loop-rest.invariant (no_digits c.loop-rest.rest.now (nil_from_length _ (eqb-true _ _ (sym c.loop-rest-test.ensures))))

pub loop-rest-preserved : goal.loop-rest-preserved
loop-rest-preserved g c = front_more c.loop-rest.invariant c.in_ok-put_hex_part.ensures (next_digits c.loop-rest.rest.now c.min-part_len.result)
