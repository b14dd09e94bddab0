use Rattle.bolt_check.proofs.FreelistSteps.{beyond_end}
use Rattle.bolt_check.proofs.freelist_findings.push_beyond.Goals as goal

pub returns : goal.returns
returns c = beyond_end c.args.freelist.now c.requires.settled c.loop-i.last c.loop-i.i c.loop-i.findings.items c.loop-i-test.false c.loop-i.invariant
