use Rattle.std.proofs.lemmas.Grind.{common_steps}
use Rattle.std.proofs.Common.{arith}
use Rattle.std.proofs.lemmas.List.{length-map}
use Rattle.bolt_lemmas.proofs.Exports.{nothing_asked}
use Rattle.bolt_bulk.proofs.{BranchPuts.branch_run_wrote, BranchPuts.branch_size, BranchPuts.key_of, BranchPuts.no_length}
use Rattle.bolt_bulk.proofs.{PutsLemmas.puts}
use Rattle.bolt_bulk.proofs.branch_run.put_branch_page.Goals as goal

pub put_elements-requires-clause-held : goal.put_elements-requires-clause-held
put_elements-requires-clause-held g c = nothing_asked c.as_slice-branches.result.now

pub put_elements-requires-clause-size : goal.put_elements-requires-clause-size
put_elements-requires-clause-size g c = grind (arith, common_steps, branch_size, key_of, no_length, length-map)

pub returns-in_err-zeros-clause-page : goal.returns-in_err-zeros-clause-page
returns-in_err-zeros-clause-page g c = grind (arith, puts, branch_run_wrote)

pub returns-in_err-put_elements-clause-page : goal.returns-in_err-put_elements-clause-page
returns-in_err-put_elements-clause-page g c = grind (arith, puts, branch_run_wrote)

pub returns-clause-page : goal.returns-clause-page
returns-clause-page g c = grind (arith, puts, branch_run_wrote)
