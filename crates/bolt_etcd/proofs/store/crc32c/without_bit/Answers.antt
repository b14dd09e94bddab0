use Rattle.std.proofs.Common.{◌∙◌, sym}
use Rattle.std.proofs.lemmas.Nat.{and_mask}
use Rattle.bolt_etcd.proofs.CrcSums.{bit_none, bit_one}
use Rattle.bolt_etcd.proofs.store.crc32c.without_bit.Goals as goal

pub returns-then-number-eq0 : goal.returns-then-number-eq0
returns-then-number-eq0 c = bit_none c.args.number (sym (and_mask c.args.number 1) ∙ c.if-number-eq0.true)

pub returns-else-number-eq0 : goal.returns-else-number-eq0
returns-else-number-eq0 c = bit_one c.args.number (λ none. c.if-number-eq0.false (and_mask c.args.number 1 ∙ none))
