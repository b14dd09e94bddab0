-- The bucket around it takes the item of the one that ends.
use Rattle.std.specs.Prelude.{⊤}
use Rattle.std.proofs.Common.{Err, arith, Ok}
use Rattle.bolt_lemmas.proofs.Exports.{last_of, last_off_at}
use Rattle.bolt_bulk.specs.Private.{IsWaiting}
use Rattle.bolt_bulk.proofs.{HeldPasses.waits_less, PassAt.leave_steps, PassAt.steps_none, PassAt.steps_stop}
use Rattle.bolt_bulk.proofs.PutsLemmas.{writes_on}
use Rattle.bolt_bulk.proofs.pass.Pass.end_open.Goals as goal

pub end_inner-requires : goal.end_inner-requires
end_inner-requires g c =
    let ready = c.requires.ready in
    let popped =
    last_off_at c.len-innermost.result c.args.self.now.waiting.items c.remove-waiting.new.self.items c.remove-waiting.result (grind arith)
    c.requires.waiting c.remove-waiting.ensures.value c.remove-waiting.ensures.by_index.2 in
    let (last, others) =
    last_of (IsWaiting c.args.self.now.setup.page_size) c.remove-waiting.new.self.items c.remove-waiting.result (rw popped at ready.waiting) in
    record {
      outer = rw c.replace-inner.ensures.after last.bucket;
      inner = rw c.replace-inner.ensures.value ready.bucket;
      key = last.key;
      room = rw (c.requires.setup, c.replace-inner.ensures.after) last.room;
    }

pub returns-in_err-bucket_ends-clause-steps : goal.returns-in_err-bucket_ends-clause-steps
returns-in_err-bucket_ends-clause-steps g c =
    λ wanted parent parents put is. steps_stop {A = ⊤} {Mid = λ _. ⊤} c.from_residual.ensures.1 (steps_none (Err _) is c.in_err-bucket_ends.ensures.fault tt)

pub returns-in_err-end_inner-clause-steps : goal.returns-in_err-end_inner-clause-steps
returns-in_err-end_inner-clause-steps g c = λ wanted parent parents put is.
    let popped =
    last_off_at c.len-innermost.result c.args.self.now.waiting.items c.remove-waiting.new.self.items c.remove-waiting.result (grind arith)
    c.requires.waiting c.remove-waiting.ensures.value c.remove-waiting.ensures.by_index.2 in
    steps_stop c.from_residual-in_err-end_inner.ensures.1
    (leave_steps wanted c.args.self.now c.args.writer.now.next {counted = c.args.self.now} parent c.remove-waiting.result c.args.self.now.bucket
    c.remove-waiting.new.self c.end_inner.new.writer.next 0 c.bucket_ends.new.self (Err _)
    is c.requires.pending popped c.in_ok-bucket_ends.ensures.ends
    (rw (c.replace-inner.ensures.value, c.requires.setup) at c.in_err-end_inner.ensures.ends.closes.writes) tt tt)

pub returns-clause-steps : goal.returns-clause-steps
returns-clause-steps g c = λ wanted parent parents put is.
    let popped =
    last_off_at c.len-innermost.result c.args.self.now.waiting.items c.remove-waiting.new.self.items c.remove-waiting.result (grind arith)
    c.requires.waiting c.remove-waiting.ensures.value c.remove-waiting.ensures.by_index.2 in
    leave_steps wanted c.args.self.now c.args.writer.now.next parent c.remove-waiting.result c.end_inner.new.self c.remove-waiting.new.self
    c.end_inner.new.writer.next _ c.bucket_ends.new.self (Ok tt)
    is c.requires.pending popped c.in_ok-bucket_ends.ensures.ends
    (writes_on (Ok tt) tt (rw (c.replace-inner.ensures.value, c.requires.setup) at c.in_ok-end_inner.ensures.ends.closes.writes))
    (rw (c.replace-inner.ensures.value, c.replace-inner.ensures.after, c.requires.setup) at c.in_ok-end_inner.ensures.ends.runs) c.count.ensures.counts

pub count-requires : goal.count-requires
count-requires g c =
    let ready = c.requires.ready in
    let popped =
    last_off_at c.len-innermost.result c.args.self.now.waiting.items c.remove-waiting.new.self.items c.remove-waiting.result (grind arith)
    c.requires.waiting c.remove-waiting.ensures.value c.remove-waiting.ensures.by_index.2 in
    let counted = waits_less c.remove-waiting.new.self.items c.args.self.now.waiting.items c.remove-waiting.result ready.counted popped in
    grind (arith, last_of)
