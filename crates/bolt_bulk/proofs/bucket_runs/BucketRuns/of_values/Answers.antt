-- The items of the values are the run, and nothing is above.
use Rattle.std.proofs.Common.{refl, arith}
use Rattle.bolt_bulk.proofs.HeldRuns.{values_none, values_run, values_view}
use Rattle.bolt_bulk.proofs.bucket_runs.BucketRuns.of_values.Goals as goal

pub returns-clause-open : goal.returns-clause-open
returns-clause-open c = grind (arith, values_run, values_none)

pub returns-clause-runs : goal.returns-clause-runs
returns-clause-runs c =
    λ next. rw (
      c.new.ensures.items,
      c.in_ok-items.ensures.items,
      values_view c.args.entries.now c.requires.values,
      c.new-2.ensures.runs,
      c.new-2.ensures.limits,
    ) refl
