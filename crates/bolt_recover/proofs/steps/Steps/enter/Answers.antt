use Rattle.std.proofs.Common.{arith, subst, sym}
use Rattle.bolt_recover.proofs.{Words.StepsOn, StepLemmas.goes_in, StepLemmas.goes_lost}
use Rattle.bolt_recover.proofs.steps.Steps.enter.Goals as goal

pub returns-in-Err-clause-on : goal.returns-in-Err-clause-on
returns-in-Err-clause-on c =
    let visit = c.in-Err.ensures in
    subst (StepsOn c.args.self.now) (sym c.lose.ensures.rest)
    (goes_lost c.args.self.now c.visit.new.claims c.reserve.new.self c.lose.new.self.losses c.reserve-3.new.self c.lose.new.self.loss_path c.in-Some.ahead
    c.requires c.in-Some.is visit.file visit.meta visit.visited
    c.in-Err.finding visit.found visit.same c.reserve.ensures.items (rw c.reserve-2.ensures.items at c.lose.ensures.reported) c.reserve-3.ensures.items)

pub returns-clause-on : goal.returns-clause-on
returns-clause-on c =
    let visit = c.in-Ok.ensures in
    goes_in c.args.self.now c.visit.new.claims c.push_reserved.new.self c.reserve-2.new.self c.note_gap.new.gaps c.reserve-4.new.self c.in-Some.ahead
    c.requires c.in-Some.is visit.file visit.meta visit.visited
    c.in-Ok.content c.count.result visit.passes visit.content visit.claims c.count.ensures (omega arith)
    (rw c.reserve.ensures.items at c.push_reserved.ensures.items) c.reserve-2.ensures.items
    (rw (c.reserve-3.ensures.items, visit.file, visit.meta, visit.content.spot) at c.note_gap.ensures)
