use Rattle.bolt_text.proofs.GatherLemmas.{Gathers-fault, Gathers-put}
use Rattle.bolt_text.proofs.gathered.put_after_gathered.Goals as goal

pub returns-in_err-put_gathered : goal.returns-in_err-put_gathered
returns-in_err-put_gathered g c = Gathers-fault _ _ _ c.in_err-put_gathered.ensures.wrote c.from_residual.ensures.0

pub returns-in-Err : goal.returns-in-Err
returns-in-Err g c = Gathers-put (rw c.in-Err.ensures.err c.in_ok-put_gathered.ensures.empty) c.in_ok-put_gathered.ensures.wrote c.put.ensures
