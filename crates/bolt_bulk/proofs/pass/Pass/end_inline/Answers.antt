-- The bucket is an item of the open one, with its entries in its value.
use Rattle.std.specs.Prelude.{⊤, Ok, Err}
use Rattle.bolt_bulk.proofs.PassAt.{inline_steps, steps_stop}
use Rattle.bolt_bulk.proofs.pass.Pass.end_inline.Goals as goal

pub returns-in_err-add_inline-clause-steps : goal.returns-in_err-add_inline-clause-steps
returns-in_err-add_inline-clause-steps g c = λ wanted parent parents put is.
    steps_stop {A = ⊤} c.from_residual.ensures.1
    (inline_steps wanted c.args.self.now c.args.writer.now.next {counted = c.args.self.now} parent c.args.pending c.add_inline.new.self
    c.args.self.now.entries c.add_inline.new.writer.next (Err _)
    is c.requires.pending c.requires.ready.pending
    (rw (c.as_slice.ensures.value, c.requires.setup) at c.in_err-add_inline.ensures.takes.writes, tt) tt)

pub returns-clause-steps : goal.returns-clause-steps
returns-clause-steps g c = λ wanted parent parents put is.
    inline_steps wanted c.args.self.now c.args.writer.now.next parent c.args.pending c.add_inline.new.self c.clear.new.self c.add_inline.new.writer.next
    (Ok tt)
    is c.requires.pending c.requires.ready.pending (
      rw (c.as_slice.ensures.value, c.requires.setup) at c.in_ok-add_inline.ensures.takes.writes,
      rw (c.as_slice.ensures.value, c.requires.setup) at c.in_ok-add_inline.ensures.takes.runs,
    )
    c.count.ensures.counts
