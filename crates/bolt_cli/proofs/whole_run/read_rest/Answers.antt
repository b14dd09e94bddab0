use Rattle.std.proofs.Common.{refl}
use Rattle.bolt_cli.proofs.{MetasAlone.metas_rest, Telling.DoesDeeds-after}
use Rattle.bolt_cli.proofs.whole_run.read_rest.Goals as goal

pub returns-in-Ok : goal.returns-in-Ok
returns-in-Ok g c =
    DoesDeeds-after _ c.in-Ok.ensures (rw c.as_slice-in-Ok.ensures.value at c.show.ensures)
    (λ deeds are. (refl, metas_rest _ _ (rw c.as_slice.ensures.value at c.metas_end.ensures), are))

pub returns-in-Err : goal.returns-in-Err
returns-in-Err g c =
    DoesDeeds-after _ c.in-Err.ensures c.report_unread.ensures
    (λ deeds fails. (refl, metas_rest _ _ (rw c.as_slice.ensures.value at c.metas_end.ensures), rw c.file.ensures at fails))
