use Rattle.bolt_cli.proofs.{BufferedLines.put_whole, Telling.DoesDeeds-after}
use Rattle.bolt_cli.proofs.whole_run.print.Goals as goal

pub returns-in-Ok : goal.returns-in-Ok
returns-in-Ok g c = λ ending buffered is.
    DoesDeeds-after _ c.in-Ok.ensures.done (c.close.ensures ending buffered is)
    (λ deeds closes.
    ((c.in-Ok.ensures.empty, c.in-Ok.ensures.sound), c.put.new.self, (put_whole _ _ c.put.ensures.all c.put.ensures.failure, c.put.ensures.prefix), closes))

pub returns-in-Err : goal.returns-in-Err
returns-in-Err g c = λ ending buffered is. DoesDeeds-after _ c.in-Err.ensures.done c.fail.ensures (λ deeds fails. fails)
