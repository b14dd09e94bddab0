-- The lost pages alone, or the other meta after them.
use Rattle.std.proofs.Common.{◌≡◌, ◌==◌, arith, false}
use Rattle.std.proofs.lemmas.Bool.{ne_eqb}
use Rattle.bolt_commands.proofs.Vocabulary.{Wrote-return, Wrote-then}
use Rattle.bolt_report.specs.MetaLines.{slot_fault_text}
use Rattle.bolt_commands.proofs.shortfall.put_shortfall.Goals as goal

pub returns-in_err-put_lost_pages-in-Some-2 : goal.returns-in_err-put_lost_pages-in-Some-2
returns-in_err-put_lost_pages-in-Some-2 g c =
    let other = c.in-Some-2.other in
    let some : (c.args.shortfall.pages == 0) ≡ false = ne_eqb c.args.shortfall.pages 0 (λ e. omega (arith, c.if-shortfall-eq0.false)) in
    rw (c.in-Some-2.is, some) (Wrote-return (slot_fault_text other.slot other.fault) _ c.in_err-put_lost_pages-in-Some-2.ensures c.from_residual.ensures.0)

pub returns-in-None : goal.returns-in-None
returns-in-None g c = rw c.in-None.is c.put_lost_pages.ensures

pub returns-in_ok-put_lost_pages-in-Some-2 : goal.returns-in_ok-put_lost_pages-in-Some-2
returns-in_ok-put_lost_pages-in-Some-2 g c =
    let some : (c.args.shortfall.pages == 0) ≡ false = ne_eqb c.args.shortfall.pages 0 (λ e. omega (arith, c.if-shortfall-eq0.false)) in
    rw (c.in-Some-2.is, some) (Wrote-then c.in_ok-put_lost_pages-in-Some-2.ensures c.put_slot_fault-in-Some-2.ensures)
