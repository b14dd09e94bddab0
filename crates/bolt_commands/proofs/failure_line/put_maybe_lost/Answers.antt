use Rattle.bolt_commands.proofs.Vocabulary.{Wrote-return, Wrote-then}
use Rattle.bolt_commands.proofs.failure_line.put_maybe_lost.Goals as goal

pub returns-in_err-put : goal.returns-in_err-put
returns-in_err-put g c = Wrote-return _ _ c.in_err-put.ensures c.from_residual.ensures.0

pub returns : goal.returns
returns g c = Wrote-then c.in_ok-put.ensures c.put_shortfall.ensures
