-- The run has one item more.
use Rattle.std.proofs.Common.{rules}
use Rattle.bolt_bulk.proofs.HeldRuns.{item_pushed}
use Rattle.bolt_bulk.proofs.bucket_runs.BucketRuns.push_reserved.Goals as goal

pub returns-clause-open : goal.returns-clause-open
returns-clause-open c =
    item_pushed c.args.self.now c.push_reserved.new.self c.args.held c.args.size c.requires.open (search rules) c.requires.held c.requires.apart
    c.requires.size c.requires.room
