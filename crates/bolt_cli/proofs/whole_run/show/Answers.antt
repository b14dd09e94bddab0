use Rattle.bolt_format.specs.contracts.sink.MemSinkSink.TheImpl as mem
use Rattle.bolt_cli.proofs.{BufferedJobs.shown, BufferedLines.buffered_line, Telling.DoesDeeds-after}
use Rattle.bolt_cli.proofs.whole_run.show.Goals as goal

pub returns-in-Ok : goal.returns-in-Ok
returns-in-Ok g c =
    let (ending, does, code, accepts) = c.run-status.ensures in
    let buffered = buffered_line mem.ghosts _ _ ending c.new-err.ensures.taken c.new-err.ensures.sound accepts in
    DoesDeeds-after _ c.in-Ok.ensures.done (c.close.ensures ending buffered code)
    (λ deeds closes. (
      (c.in-Ok.ensures.empty, c.in-Ok.ensures.sound),
      c.run-status.new.out,
      ending,
      shown g.O.Output.Sink _ _ mem.ghosts _ _ _ _ ending c.requires does,
      closes,
    ))

pub returns-in-Err : goal.returns-in-Err
returns-in-Err g c = DoesDeeds-after _ c.in-Err.ensures.done c.fail.ensures (λ deeds fails. fails)
