-- A value has half as many bytes as digits.
use Rattle.std.proofs.Common.{◌∙◌, sym, ap}
use Rattle.bolt_load.proofs.{Words.word_item, MemberLemmas.long_value}
use Rattle.bolt_load.proofs.decode.is_long_item.Goals as goal

pub returns-in-Digits : goal.returns-in-Digits
returns-in-Digits c = λ said is. long_value c.in-Digits.digits.now said (sym (ap word_item c.in-Digits.is) ∙ is)
