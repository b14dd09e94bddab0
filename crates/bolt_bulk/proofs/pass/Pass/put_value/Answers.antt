-- The value is an item of the open bucket.
use Rattle.std.specs.Prelude.{⊤, Ok, Err}
use Rattle.bolt_bulk.proofs.PassAt.{steps_stop, value_steps}
use Rattle.bolt_bulk.proofs.pass.Pass.put_value.Goals as goal

pub returns-in_err-add_value-clause-steps : goal.returns-in_err-add_value-clause-steps
returns-in_err-add_value-clause-steps g c = λ wanted after parents put is.
    steps_stop {A = ⊤} c.from_residual.ensures.1
    (value_steps wanted c.args.self.now c.args.writer.now.next {counted = c.args.self.now} c.args.key.now c.args.value.now after c.add_value.new.self
    c.add_value.new.writer.next (Err _)
    is c.requires.pending (rw c.requires.setup at c.in_err-add_value.ensures.takes.writes, tt) tt)

pub returns-clause-steps : goal.returns-clause-steps
returns-clause-steps g c = λ wanted after parents put is.
    value_steps wanted c.args.self.now c.args.writer.now.next c.args.key.now c.args.value.now after c.add_value.new.self c.add_value.new.writer.next (Ok tt)
    is c.requires.pending
    (rw c.requires.setup at c.in_ok-add_value.ensures.takes.writes, rw c.requires.setup at c.in_ok-add_value.ensures.takes.runs) c.count.ensures.counts
