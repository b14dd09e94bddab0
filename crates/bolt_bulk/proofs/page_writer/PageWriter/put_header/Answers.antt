use Rattle.std.proofs.Common.{arith}
use Rattle.bolt_bulk.proofs.RunLemmas.{run_fits}
use Rattle.bolt_bulk.proofs.page_writer.PageWriter.put_header.Goals as goal

pub overflow_cast-further : goal.overflow_cast-further
overflow_cast-further g c = grind (arith, run_fits)

pub overflow_add-result : goal.overflow_add-result
overflow_add-result g c = grind (arith, run_fits)

pub overflow_mul-result : goal.overflow_mul-result
overflow_mul-result g c = grind (arith, run_fits)

pub overflow_sub-result : goal.overflow_sub-result
overflow_sub-result g c = grind (arith, run_fits)
