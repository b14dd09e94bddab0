use Rattle.std.proofs.Common.{◌∙◌}
use Rattle.bolt_recover.proofs.StatesKept.{bucket_at}
use Rattle.bolt_recover.specs.ShownStates.{place_view}
use Rattle.bolt_recover.proofs.states.bucket_state.Goals as goal

pub returns-then-not-may_be_root : goal.returns-then-not-may_be_root
returns-then-not-may_be_root c = rw c.place_meta-meta.ensures at (c.may_be_root.ensures c.if-not-may_be_root.true)

pub returns-in_ok-state-in-Ok : goal.returns-in_ok-state-in-Ok
returns-in_ok-state-in-Ok c =
    let file = c.args.file.now in
    let place = place_view c.args.place in
    let root = rw c.place_meta-meta.ensures at c.in-Ok.ensures.root in
    let under = c.in-Ok.ensures.meta ∙ c.place_meta-meta.ensures in
    let counted = rw (c.in-Ok.ensures.file, under) at c.in_ok-state-in-Ok.ensures in
    bucket_at file place _ _ root counted c.with_buckets.ensures.some c.with_buckets.ensures.none
