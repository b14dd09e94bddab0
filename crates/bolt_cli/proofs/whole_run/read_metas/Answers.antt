use Rattle.std.proofs.Common.{refl}
use Rattle.bolt_cli.proofs.Telling.{DoesDeeds-after}
use Rattle.bolt_cli.proofs.whole_run.read_metas.Goals as goal

pub returns-in-Ok : goal.returns-in-Ok
returns-in-Ok g c = DoesDeeds-after _ c.in-Ok.ensures c.read_rest.ensures (λ deeds are. (c.file.ensures, refl, are))

pub returns-in-Err : goal.returns-in-Err
returns-in-Err g c = DoesDeeds-after _ c.in-Err.ensures c.report_unread.ensures (λ deeds fails. (c.file.ensures, refl, rw c.file-in-Err.ensures at fails))
