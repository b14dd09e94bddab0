-- Digits are UTF-8.
use Rattle.bolt_text.proofs.TokenLemmas.{digits_utf8, never_err}
use Rattle.bolt_text.proofs.json_text.hex_digits.Goals as goal

pub unwrap-requires : goal.unwrap-requires
unwrap-requires c =
    never_err _ _ c.from_utf8.result c.from_utf8.ensures.cases (λ e is. is.0 (rw c.encode_digits.ensures (digits_utf8 c.args.bytes.now)))
