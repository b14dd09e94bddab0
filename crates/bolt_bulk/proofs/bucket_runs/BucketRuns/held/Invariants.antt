-- With the pages of the runs from here on it is the whole.
use Rattle.std.proofs.Common.{◌≡◌, ◌≤◌, ◌+◌, drop, min}
use Rattle.bolt_bulk.specs.Private.{items_above, items_in}
use Rattle.bolt_bulk.proofs.bucket_runs.BucketRuns.held.Given as goal

abbrev pub invariant-loop-run : goal.invariant-loop-run
invariant-loop-run l = record {
  fits : l.held ≤ 18446744073709551615;
  whole : min (l.held + items_above (drop l.run-index l.self.uppers.runs.items)) 18446744073709551615 ≡ min (items_in l.self) 18446744073709551615;
}
