use Rattle.std.proofs.Common.{below_more}
use Rattle.bolt_format.proofs.MetaLemmas.{IsLoneMeta-at, IsLoneMeta-none}
use Rattle.bolt_format.proofs.meta.lone_meta.Goals as goal

pub returns-in-Ok-clause-found : goal.returns-in-Ok-clause-found
returns-in-Ok-clause-found c = IsLoneMeta-at c.args.file.now c.loop-at.at-index c.in-Ok.meta c.loop-at-test.true c.loop-at.invariant c.in-Ok.ensures.valid

pub loop-at-preserved : goal.loop-at-preserved
loop-at-preserved c = below_more _ _ c.loop-at.invariant c.in_default.ensures.none

pub returns-clause-none : goal.returns-clause-none
returns-clause-none c = IsLoneMeta-none c.args.file.now c.loop-at.at-index c.loop-at-test.false c.loop-at.invariant
