-- The value goes to the bucket that may be inline, or that one is opened first, as it has no room.
use Rattle.std.proofs.lemmas.Grind.{common_steps}
use Rattle.std.proofs.Common.{map, arith}
use Rattle.bolt_format.specs.ElementPlaces.{leaf_view}
use Rattle.bolt_tree.specs.Tree.{Tree, with_value}
use Rattle.bolt_bulk.specs.Private.{HasRoot, onto, Wanted}
use Rattle.bolt_bulk.proofs.{PassAt.steps_none, PassAt.steps_stop, PassAt.steps_then, PassReady.full_rooted, PassReady.small_of}
use Rattle.bolt_bulk.proofs.{pass.Pass.take_value.Goals.After-open_pending}
use Rattle.bolt_bulk.proofs.pass.Pass.take_value.Goals as goal

-- a bucket that has no room for the value has a root page
rooted : (g : _) (c : After-open_pending g) (wanted : Wanted) (after : Tree)
    → HasRoot wanted.which c.args.self.now.setup.page_size
    (onto (map leaf_view c.args.self.now.entries.items) (with_value c.args.key.now c.args.value.now after))
rooted g c wanted after = grind (arith, common_steps, small_of, full_rooted)

pub returns-then-len-lt-MAX_ITEMS-clause-steps : goal.returns-then-len-lt-MAX_ITEMS-clause-steps
returns-then-len-lt-MAX_ITEMS-clause-steps g c =
    λ wanted after parents put is. steps_none c.keep_value.result is c.keep_value.ensures.fault (c.keep_value.ensures.keeps wanted _ after parents put is)

pub returns-in_err-open_pending-clause-steps : goal.returns-in_err-open_pending-clause-steps
returns-in_err-open_pending-clause-steps g c = λ wanted after parents put is.
    steps_stop c.from_residual.ensures.1 (c.in_err-open_pending.ensures.steps wanted (with_value c.args.key.now c.args.value.now after) parents put is
    (rooted g (goal.at.returns-in_err-open_pending-clause-steps g c).After-open_pending wanted after))

pub returns-clause-steps : goal.returns-clause-steps
returns-clause-steps g c = λ wanted after parents put is.
    steps_then c.in_ok-open_pending.ensures.on.setup
    (c.in_ok-open_pending.ensures.steps wanted (with_value c.args.key.now c.args.value.now after) parents put is
    (rooted g (goal.at.returns-clause-steps g c).After-open_pending wanted after)) (λ all mid. c.put_value-2.ensures.steps wanted after parents all mid)
