-- Digits need no escapes, so they are what stands between the quotes (34).
use Rattle.std.proofs.Common.{◌∷◌, []}
use Rattle.bolt_text.proofs.{GatherLemmas.Gathers-return, GatherLemmas.Gathers-then, HexStrings.plain_digits}
use Rattle.bolt_text.proofs.gathered.put_hex_string.Goals as goal

pub returns-in_err-put_bytes : goal.returns-in_err-put_bytes
returns-in_err-put_bytes g c = Gathers-return _ _ c.in_err-put_bytes.ensures c.from_residual.ensures.0

pub returns-in_err-put_hex_digits : goal.returns-in_err-put_hex_digits
returns-in_err-put_hex_digits g c =
    rw (plain_digits c.args.bytes.now (λ i. (c.type_inv.bytes i).fits))
    (Gathers-then c.in_ok-put_bytes.ensures (Gathers-return (34 ∷ []) _ c.in_err-put_hex_digits.ensures c.from_residual-in_err-put_hex_digits.ensures.0))

pub returns : goal.returns
returns g c =
    rw (plain_digits c.args.bytes.now (λ i. (c.type_inv.bytes i).fits))
    (Gathers-then c.in_ok-put_bytes.ensures (Gathers-then c.in_ok-put_hex_digits.ensures c.put_bytes-2.ensures))
