use Rattle.std.proofs.Common.{arith}
use Rattle.bolt_bulk.proofs.{FirstPuts.first_wrote, PutsLemmas.puts}
use Rattle.bolt_bulk.proofs.members_copy.put_first_pages.Goals as goal

pub returns-in_err-put_filled : goal.returns-in_err-put_filled
returns-in_err-put_filled g c = grind (arith, puts, first_wrote)

pub returns-in_err-put_filled-2 : goal.returns-in_err-put_filled-2
returns-in_err-put_filled-2 g c = grind (arith, puts, first_wrote)

pub returns : goal.returns
returns g c = grind (arith, puts, first_wrote)
