use Rattle.std.proofs.Common.{rules}
use Rattle.bolt_check.proofs.FreelistSteps.{past_end, past_start}
use Rattle.bolt_check.proofs.freelist_findings.push_past.Goals as goal

pub loop-i-init : goal.loop-i-init
loop-i-init c = search (rules, past_start)

pub returns-clause-reported : goal.returns-clause-reported
returns-clause-reported c =
    past_end c.args.freelist.now c.requires.settled c.loop-i.from c.loop-i.i c.loop-i.findings.items c.loop-i-test.false c.loop-i.invariant.reported
