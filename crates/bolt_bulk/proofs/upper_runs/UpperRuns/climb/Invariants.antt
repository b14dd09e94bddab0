-- The climb over the runs that are left comes to the same as the whole climb.
use Rattle.std.proofs.Common.{◌≡◌, ◌≤◌, length}
use Rattle.std.specs.List.{AllByRecursion}
use Rattle.bolt_format.specs.ElementPlaces.{branch_view}
use Rattle.bolt_bulk.specs.Private.{bucket_limit, IsSameWriter, IsStanding, runs_above}
use Rattle.bolt_bulk.proofs.ClimbLemmas.{Climbing}
use Rattle.bolt_bulk.proofs.upper_runs.UpperRuns.climb.Given as goal

abbrev pub invariant-loop-i : goal.invariant-loop-i
invariant-loop-i g l = record {
  climbs : Climbing l.initial.writer.setup (bucket_limit l.initial.self.limits (length (runs_above l.initial.self.runs.items))) l.key
      (branch_view l.closed-2) l.initial.writer.next (runs_above l.initial.self.runs.items) g.S.Sink l.initial.writer.sink.now l.writer.sink.now
      (runs_above l.self.runs.items) l.i (branch_view l.closed) l.writer.next;
  standing : AllByRecursion IsStanding (runs_above l.self.runs.items);
  count : length l.self.runs.items ≡ length l.initial.self.runs.items;
  short : length l.closed.key.now ≤ 1073741824;
  same : IsSameWriter l.initial.writer l.writer;
  limits : l.self.limits ≡ l.initial.self.limits;
}
