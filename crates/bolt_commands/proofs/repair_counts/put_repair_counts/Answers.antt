use Rattle.bolt_commands.proofs.Vocabulary.{Wrote-return, Wrote-then}
use Rattle.bolt_commands.proofs.repair_counts.put_repair_counts.Goals as goal

pub returns-in_err-put_bound : goal.returns-in_err-put_bound
returns-in_err-put_bound g c = Wrote-return _ _ c.in_err-put_bound.ensures c.from_residual.ensures.0

pub returns : goal.returns
returns g c = Wrote-then c.in_ok-put_bound.ensures c.put_back.ensures
