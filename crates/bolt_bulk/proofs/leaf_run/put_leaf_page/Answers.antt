use Rattle.std.proofs.lemmas.Grind.{common_steps}
use Rattle.std.proofs.Common.{arith}
use Rattle.bolt_format.proofs.Exports.{Wrote-return_cut, Wrote-then}
use Rattle.bolt_bulk.proofs.{HeldPuts.held_data, HeldPuts.held_length, HeldPuts.leaf_run_wrote, LeafPuts.key_by, PutsLemmas.puts}
use Rattle.bolt_bulk.proofs.leaf_run.put_leaf_page.Goals as goal

pub put_elements-requires-clause-size : goal.put_elements-requires-clause-size
put_elements-requires-clause-size g c = grind (arith, common_steps, held_data, key_by, held_length)

pub returns-in_err-zeros-clause-page : goal.returns-in_err-zeros-clause-page
returns-in_err-zeros-clause-page g c = grind (arith, puts, leaf_run_wrote)

pub returns-in_err-put_elements-clause-page : goal.returns-in_err-put_elements-clause-page
returns-in_err-put_elements-clause-page g c =
    let put =
    Wrote-return_cut _ _ (rw (c.as_slice-items.ensures.value, c.as_slice.ensures.value) at c.in_err-put_elements.ensures)
    c.from_residual-in_err-put_elements.ensures.0 in
    leaf_run_wrote _ _ c.args.run.now c.requires (Wrote-then (rw c.as_slice-items.ensures.value at c.in_ok-zeros.ensures.header) put)

pub returns-clause-page : goal.returns-clause-page
returns-clause-page g c =
    leaf_run_wrote _ _ c.args.run.now c.requires
    (rw (c.as_slice-items.ensures.value, c.as_slice.ensures.value, c.in_ok-zeros.ensures.zeros) at (Wrote-then c.in_ok-zeros.ensures.header
    (Wrote-then c.in_ok-put_elements.ensures c.put_zeros.ensures)))
