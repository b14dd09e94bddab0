-- The runs that are left come to the same as all of them.
use Rattle.std.proofs.Common.{◌≡◌, ◌≤◌, length}
use Rattle.std.specs.List.{AllByRecursion}
use Rattle.bolt_format.specs.ElementPlaces.{branch_view}
use Rattle.bolt_bulk.specs.Private.{IsSameWriter, IsStanding, runs_above}
use Rattle.bolt_bulk.proofs.ClimbLemmas.{Closing}
use Rattle.bolt_bulk.proofs.upper_runs.UpperRuns.close_all.Given as goal

abbrev pub invariant-loop-i : goal.invariant-loop-i
invariant-loop-i g l = record {
  closes : Closing l.initial.writer.setup (branch_view l.closed-2) l.initial.writer.next (runs_above l.initial.self.runs.items) g.S.Sink
      l.initial.writer.sink.now l.writer.sink.now
      (runs_above l.self.runs.items) l.i (branch_view l.closed) l.writer.next;
  standing : AllByRecursion IsStanding (runs_above l.self.runs.items);
  count : length l.self.runs.items ≡ length l.initial.self.runs.items;
  short : length l.closed.key.now ≤ 1073741824;
  same : IsSameWriter l.initial.writer l.writer;
}
