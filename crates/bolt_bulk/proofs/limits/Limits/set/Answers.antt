-- Only this row's limit changes.
use Rattle.bolt_bulk.proofs.LimitLemmas.{others_stay}
use Rattle.bolt_bulk.proofs.limits.Limits.set.Goals as goal

pub returns-clause-others : goal.returns-clause-others
returns-clause-others c = others_stay c.args.self.now.rows c.insert.new.self c.args.bucket c.args.level c.args.allowed c.in_ok-insert.ensures.updates
