use Rattle.std.proofs.Common.{append_assoc, arith}
use Rattle.bolt_check.proofs.{AnyLemmas.large_values}
use Rattle.bolt_check.proofs.bbolt_pages.find_at_page.Goals as goal

pub returns : goal.returns
returns c = grind (arith, append_assoc, large_values)
