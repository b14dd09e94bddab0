-- What is added is the next header, and the place of its key has room in 32 bits.
use Rattle.std.proofs.lemmas.Grind.{common_steps}
use Rattle.std.proofs.Common.{arith}
use Rattle.bolt_bulk.proofs.ElementPuts.{heads_all, heads_more, heads_next, heads_stop}
use Rattle.bolt_bulk.proofs.page_elements.put_headers.Goals as goal

pub returns-in_err-put_full : goal.returns-in_err-put_full
returns-in_err-put_full g c = heads_stop c.loop-element.invariant _ c.in_err-put_full.ensures.gathers c.from_residual.ensures.0

pub loop-element-preserved : goal.loop-element-preserved
loop-element-preserved g c = grind (arith, common_steps, heads_next, heads_more)

pub returns : goal.returns
returns g c = heads_all c.loop-element.invariant (omega arith) (rw c.as_slice.ensures.value at c.put_unless_empty.ensures)
