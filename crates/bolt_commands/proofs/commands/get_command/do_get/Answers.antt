-- That of a sound file, or that which is recovered.
use Rattle.bolt_commands.proofs.commands.get_command.do_get.Goals as goal

pub returns-then-job : goal.returns-then-job
returns-then-job g c = rw c.if-job.true c.get_recovered.ensures

pub returns-else-job : goal.returns-else-job
returns-else-job g c = rw c.if-job.false c.get_sound.ensures
