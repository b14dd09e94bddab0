-- The bucket is opened with its entries so far, and the one around it waits with room for it.
use Rattle.std.specs.Prelude.{⊤}
use Rattle.std.proofs.Common.{Ok, Err, refl, sym}
use Rattle.bolt_lemmas.proofs.Exports.{all_append}
use Rattle.bolt_bulk.specs.Private.{IsWaiting}
use Rattle.bolt_bulk.specs.declared.bulk_fault.BulkFault.TheVariants as fault
use Rattle.bolt_bulk.proofs.{HeldPasses.more_around, HeldPasses.waits_more, PassAt.open_steps, PassAt.open_stops, PassAt.steps_none}
use Rattle.bolt_bulk.proofs.{PassAt.steps_stop, PutsLemmas.writes_on}
use Rattle.bolt_bulk.proofs.pass.Pass.open_pending.Goals as goal

pub returns-in_default-clause-steps : goal.returns-in_default-clause-steps
returns-in_default-clause-steps g c = λ wanted left parents put is rooted. steps_none (Ok tt) is tt is

pub returns-in_err-inner-clause-steps : goal.returns-in_err-inner-clause-steps
returns-in_err-inner-clause-steps g c =
    λ wanted left parents put is rooted. steps_stop {A = ⊤} c.from_residual.ensures.1 (steps_none {At = λ _. ⊤} (Err _) is c.in_err-inner.ensures.fault tt)

pub returns-in_err-waiting-clause-steps : goal.returns-in_err-waiting-clause-steps
returns-in_err-waiting-clause-steps g c = λ wanted left parents put is rooted.
    open_stops wanted c.args.self.now c.args.writer.now.next c.in-Some.pending c.from_residual-in_err-waiting.ensures.1 is c.in-Some.is
    c.requires.ready.pending rooted (rw (c.replace-outer.ensures.value, c.requires.setup) at c.in_err-waiting.ensures.enters.writes)

pub returns-in_err-push-clause-steps : goal.returns-in_err-push-clause-steps
returns-in_err-push-clause-steps g c = λ wanted left parents put is rooted.
    open_stops wanted c.args.self.now c.args.writer.now.next c.in-Some.pending c.from_residual-in_err-push.ensures.1 is c.in-Some.is
    c.requires.ready.pending rooted
    (writes_on {B = ⊤} (Err fault.Memory) refl (rw (c.replace-outer.ensures.value, c.requires.setup) at c.in_ok-waiting.ensures.enters.writes))

pub returns-clause-steps : goal.returns-clause-steps
returns-clause-steps g c = λ wanted left parents put is rooted.
    let values = rw (c.as_slice.ensures.value, sym c.replace-outer.ensures.after) at (c.in_ok-inner.ensures.runs c.enter.new.writer.next) in
    open_steps wanted c.args.self.now c.args.writer.now.next c.in-Some.pending c.replace-outer.new.dest c.in_ok-waiting.waiting c.push.new.self
    c.clear.new.self c.enter.new.writer.next _ _
    is c.in-Some.is c.requires.ready.pending rooted
    (writes_on (Ok tt) tt (rw (c.replace-outer.ensures.value, c.requires.setup) at c.in_ok-waiting.ensures.enters.writes))
    (rw (c.replace-outer.ensures.value, c.requires.setup) at c.in_ok-waiting.ensures.enters.runs) c.in_ok-waiting.ensures.enters.key
    c.in_ok-waiting.ensures.enters.sequence c.in_ok-push.ensures.items values c.saturating_add-self.ensures c.count.ensures.counts

pub count-requires : goal.count-requires
count-requires g c =
    let items = c.in_ok-push.ensures.items in
    record {
      bucket = rw c.replace-outer.ensures.after c.in_ok-inner.ensures.open;
      waiting =
          rw items
          (all_append (IsWaiting c.args.self.now.setup.page_size) _ _ c.requires.ready.waiting (rw c.requires.setup at c.in_ok-waiting.ensures.waits, tt));
      pending = c.clear.ensures.items;
      counted =
          waits_more _ _ c.in_ok-waiting.waiting _ c.requires.ready.counted c.in_ok-waiting.ensures.enters.around_is c.requires.ready.around items;
      around = more_around _ _ _ _ _ c.in_ok-waiting.waiting c.requires.ready.around c.held.ensures c.saturating_add-around.ensures items;
    }
