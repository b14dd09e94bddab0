-- Those of a sound file, or those that are recovered.
use Rattle.bolt_commands.proofs.commands.keys_command.do_keys.Goals as goal

pub returns-then-job : goal.returns-then-job
returns-then-job g c = rw c.if-job.true (rw (c.as_slice.ensures.value, c.as_slice-then-job.ensures.value) at c.name_recovered.ensures)

pub returns-else-job : goal.returns-else-job
returns-else-job g c = rw c.if-job.false c.put_keys_asked.ensures
