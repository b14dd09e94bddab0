use Rattle.std.proofs.Common.{refl}
use Rattle.bolt_cli.proofs.Telling.{DoesDeeds-after}
use Rattle.bolt_cli.proofs.whole_run.make.Goals as goal

pub returns-in-Ok : goal.returns-in-Ok
returns-in-Ok g c =
    DoesDeeds-after _ c.in-Ok.ensures.done (rw c.as_slice.ensures.value at c.copy.ensures)
    (λ deeds copies. (refl, refl, (c.in-Ok.ensures.empty, c.in-Ok.ensures.sound), copies))

pub returns-in-Err : goal.returns-in-Err
returns-in-Err g c = DoesDeeds-after _ c.in-Err.ensures.done c.report_unmade.ensures (λ deeds fails. (refl, refl, fails))
