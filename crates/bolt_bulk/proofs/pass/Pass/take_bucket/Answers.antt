-- The bucket may be inline; if one around it might have been, that one has a root page, as it holds a bucket.
use Rattle.std.proofs.Common.{Ok, map}
use Rattle.bolt_format.specs.ElementPlaces.{leaf_view}
use Rattle.bolt_tree.specs.Tree.{with_bucket}
use Rattle.bolt_bulk.proofs.{Ontos.bucket_has_root, PassAt.steps_none, PassAt.steps_stop, PassAt.steps_then}
use Rattle.bolt_bulk.proofs.pass.Pass.take_bucket.Goals as goal

pub returns-in_err-open_pending-clause-steps : goal.returns-in_err-open_pending-clause-steps
returns-in_err-open_pending-clause-steps g c = λ wanted inside after parents put is.
    steps_stop c.from_residual.ensures.1 (c.in_err-open_pending.ensures.steps wanted (with_bucket c.args.key.now c.args.sequence inside after) parents put is
    (bucket_has_root wanted.which c.args.self.now.setup.page_size (map leaf_view c.args.self.now.entries.items) c.args.key.now c.args.sequence inside after))

pub returns-clause-steps : goal.returns-clause-steps
returns-clause-steps g c = λ wanted inside after parents put is.
    steps_then c.in_ok-open_pending.ensures.on.setup
    (c.in_ok-open_pending.ensures.steps wanted (with_bucket c.args.key.now c.args.sequence inside after) parents put is
    (bucket_has_root wanted.which c.args.self.now.setup.page_size (map leaf_view c.args.self.now.entries.items) c.args.key.now c.args.sequence inside after))
    (λ all mid. steps_none (Ok tt) mid tt (c.begin.ensures.begins wanted _ inside after parents all mid))
