use Rattle.std.proofs.Common.{◌∙◌}
use Rattle.bolt_text.proofs.HexStrings.{pair_is}
use Rattle.bolt_text.proofs.hexadecimal.byte_digits.Goals as goal

pub returns : goal.returns
returns c = c.to_le_bytes.ensures ∙ pair_is c.args.byte c.ranges.byte.fits
