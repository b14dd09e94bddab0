-- The leaf closes, and then the runs above it.
use Rattle.std.proofs.Common.{arith, rules}
use Rattle.bolt_format.specs.ElementPlaces.{branch_view}
use Rattle.bolt_bulk.specs.Private.{bucket_runs}
use Rattle.bolt_bulk.proofs.BucketLemmas.{closed_short, end_made, end_stops}
use Rattle.bolt_bulk.proofs.bucket_runs.BucketRuns.close_runs.Goals as goal

pub close_all-requires-clause-closed : goal.close_all-requires-clause-closed
close_all-requires-clause-closed g c =
    closed_short c.args.self.now.leaves.inlined.items c.args.self.now.leaves.items.items c.args.self.now.leaves.size c.args.writer.now.next
    (branch_view c.in_ok-closed.closed) c.requires.open.leaves.held c.in_ok-closed.ensures.closes.up

pub returns-in_err-closed-clause-closes : goal.returns-in_err-closed-clause-closes
returns-in_err-closed-clause-closes g c = record {
  closes = end_stops (bucket_runs c.args.self.now c.args.writer.now.next) c.from_residual.ensures.1 c.in_err-closed.ensures.closes.closes;
  root = search rules;
}

pub returns-clause-closes : goal.returns-clause-closes
returns-clause-closes g c = record {
  closes =
      end_made (bucket_runs c.args.self.now c.args.writer.now.next) (branch_view c.in_ok-closed.closed) c.in_ok-closed.ensures.closes.up
      c.in_ok-closed.ensures.same.setup c.in_ok-closed.ensures.closes.closes c.close_all.ensures.closes.closes;
  root = grind arith;
}
