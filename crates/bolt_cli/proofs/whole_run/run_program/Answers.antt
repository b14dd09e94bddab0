use Rattle.std.proofs.Common.{inl}
use Rattle.bolt_cli.proofs.Telling.{DoesDeeds-as}
use Rattle.bolt_cli.proofs.whole_run.run_program.Goals as goal

pub returns-in-Ok : goal.returns-in-Ok
returns-in-Ok g c = DoesDeeds-as c.do_asked.ensures (λ deeds does. inl (_, c.in-Ok.ensures.job, does))
