-- The names that are recovered; it is found that the others are put.
use Rattle.std.proofs.Common.{◌≡◌, true}
use Rattle.bolt_job.specs.declared.choices.BucketsShown.TheVariants.{Names}
use Rattle.bolt_commands.proofs.commands.buckets_command.do_buckets.Goals as goal

pub returns-in-Names-true : goal.returns-in-Names-true
returns-in-Names-true g c =
    let is = c.in-Names-true.is in
    let recovers = c.in-Names-true.recover-test in
    let asked : c.args.job.now.shown ≡ Names true = cc in
    rw asked (rw c.as_slice.ensures.value at c.name_recovered.ensures)
