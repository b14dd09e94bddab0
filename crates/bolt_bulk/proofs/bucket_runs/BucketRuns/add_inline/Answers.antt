-- What is open after the room is made takes the item.
use Rattle.std.proofs.Common.{◌≡◌, ◌+◌, arith, length, map}
use Rattle.bolt_format.specs.ElementPlaces.{leaf_view}
use Rattle.bolt_bulk.specs.Private.{element_size, pending_element}
use Rattle.bolt_bulk.proofs.{BucketLemmas.takes_item, BucketLemmas.takes_none, HeldRuns.length-inline_value}
use Rattle.bolt_bulk.proofs.{bucket_runs.BucketRuns.add_inline.Goals.After-make_room}
use Rattle.bolt_bulk.proofs.bucket_runs.BucketRuns.add_inline.Goals as goal

-- the size that was counted is that of the item
sized : (g : _) (c : After-make_room g)
    → 16 + (length c.args.pending.key.now + (c.args.pending.size + 16)) ≡ element_size (pending_element c.args.pending c.args.entries.now)
sized g c = omega (arith, c.requires.size, length-inline_value c.args.pending.sequence (map leaf_view c.args.entries.now))

pub returns-in_err-make_room-clause-takes : goal.returns-in_err-make_room-clause-takes
returns-in_err-make_room-clause-takes g c =
    takes_none (pending_element c.args.pending c.args.entries.now) _ (sized g (goal.at.returns-in_err-make_room-clause-takes g c).After-make_room)
    c.from_residual.ensures.1 c.in_err-make_room.ensures.makes

pub returns-clause-takes : goal.returns-clause-takes
returns-clause-takes g c =
    takes_item (pending_element c.args.pending c.args.entries.now) c.push_inline.result (sized g (goal.at.returns-clause-takes g c).After-make_room)
    c.in_ok-make_room.ensures.makes c.push_inline.ensures.fault c.push_inline.ensures.runs
