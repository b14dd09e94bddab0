-- What is open after the room is made takes the item.
use Rattle.std.proofs.Common.{refl}
use Rattle.bolt_bulk.specs.Private.{value_element}
use Rattle.bolt_bulk.proofs.BucketLemmas.{takes_item}
use Rattle.bolt_bulk.proofs.bucket_runs.BucketRuns.add_value.Goals as goal

pub returns-clause-takes : goal.returns-clause-takes
returns-clause-takes g c =
    takes_item (value_element c.args.key.now c.args.value.now) c.push_item.result refl c.in_ok-make_room.ensures.makes c.push_item.ensures.fault
    c.push_item.ensures.runs
