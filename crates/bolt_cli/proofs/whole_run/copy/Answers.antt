use Rattle.std.proofs.Common.{refl}
use Rattle.bolt_format.specs.contracts.sink.MemSinkSink.TheImpl as mem
use Rattle.bolt_cli.proofs.{BufferedJobs.buffered_job, BufferedLines.buffered_line, Telling.DoesDeeds-after}
use Rattle.bolt_cli.proofs.whole_run.copy.Goals as goal

pub returns-in-Ok : goal.returns-in-Ok
returns-in-Ok g c =
    let (ending, does, code, accepts) = c.run-status.ensures in
    let job = buffered_job mem.ghosts g.O.Target.Sink _ _ _ _ c.new-out.ensures.taken c.new-out.ensures.sound refl refl _ _ ending does in
    let buffered = buffered_line mem.ghosts _ _ ending c.new-err.ensures.taken c.new-err.ensures.sound accepts in
    DoesDeeds-after _ c.in-Ok.ensures (c.print_buffered.ensures _ refl ending buffered code) (λ deeds are. (_, ending, job, are))

pub returns : goal.returns
returns g c =
    let (ending, does, code, accepts) = c.run-status.ensures in
    let job = buffered_job mem.ghosts g.O.Target.Sink _ _ _ _ c.new-out.ensures.taken c.new-out.ensures.sound refl refl _ _ ending does in
    let buffered = buffered_line mem.ghosts _ _ ending c.new-err.ensures.taken c.new-err.ensures.sound accepts in
    DoesDeeds-after _ c.in-Err.ensures (c.report_unended.ensures ending buffered) (λ deeds are. (_, ending, job, are))
