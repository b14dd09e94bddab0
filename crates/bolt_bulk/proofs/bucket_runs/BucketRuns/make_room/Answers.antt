-- If there is no room, the leaf closes, and its element climbs.
use Rattle.std.proofs.Common.{◌∙◌, arith, rules, sym}
use Rattle.bolt_format.specs.ElementPlaces.{branch_view}
use Rattle.bolt_bulk.specs.Private.{bucket_runs}
use Rattle.bolt_bulk.proofs.BucketLemmas.{closed_short, room_made, room_stops}
use Rattle.bolt_bulk.proofs.bucket_runs.BucketRuns.make_room.Goals as goal

pub climb-requires-clause-closed : goal.climb-requires-clause-closed
climb-requires-clause-closed g c =
    closed_short c.args.self.now.leaves.inlined.items c.args.self.now.leaves.items.items c.args.self.now.leaves.size c.args.writer.now.next
    (branch_view c.in_ok-closed.closed) c.requires.open.leaves.held c.in_ok-closed.ensures.closes.up

pub returns-in_err-closed-clause-makes : goal.returns-in_err-closed-clause-makes
returns-in_err-closed-clause-makes g c = record {
  writes =
      room_stops (bucket_runs c.args.self.now c.args.writer.now.next) c.args.key.now c.args.size (sym c.has_room.ensures ∙ c.if-has_room.false)
      c.from_residual.ensures.1 c.in_err-closed.ensures.closes.closes;
  runs = search rules;
}

pub returns-clause-makes : goal.returns-clause-makes
returns-clause-makes g c = record {
  writes =
      room_made (bucket_runs c.args.self.now c.args.writer.now.next) c.args.key.now c.args.size (branch_view c.in_ok-closed.closed)
      (sym c.has_room.ensures ∙ c.if-has_room.false)
      c.in_ok-closed.ensures.closes.up c.in_ok-closed.ensures.same.setup c.in_ok-closed.ensures.closes.closes c.climb.ensures.climbs.writes;
  runs = grind arith;
}
