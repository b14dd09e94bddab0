-- The entries come after the others, and the item names them.
use Rattle.std.proofs.Common.{arith}
use Rattle.std.proofs.lemmas.Grind.{common_steps}
use Rattle.std.proofs.Common.{rules}
use Rattle.bolt_bulk.proofs.HeldRuns.{added_views, inline_pushed}
use Rattle.bolt_bulk.proofs.bucket_runs.BucketRuns.push_inline.Goals as goal

pub returns-clause-open : goal.returns-clause-open
returns-clause-open c =
    inline_pushed c.args.self.now c.push.new.self c.extend_from_slice.new.self c.args.entries.now c.args.key c.args.sequence c.len-first.result c.args.size
    c.requires.open (search rules) (search rules) (search rules) c.requires.key c.requires.few c.requires.size c.requires.small c.requires.room

pub returns-clause-runs : goal.returns-clause-runs
returns-clause-runs c = grind (arith, common_steps, added_views)
