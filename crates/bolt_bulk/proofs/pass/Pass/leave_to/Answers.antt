-- One more bucket has ended, and so on until at most `depth` are left.
use Rattle.std.proofs.Common.{◌∙◌, arith}
use Rattle.bolt_bulk.proofs.{PassAt.steps_map, PassAt.steps_stop, PassAt.steps_then, PassLeft.has_ended, PassLeft.left_out, PassLeft.steps_begun}
use Rattle.bolt_bulk.proofs.pass.Pass.leave_to.Goals as goal

pub buckets-init : goal.buckets-init
buckets-init g c = grind (arith, steps_begun)

pub returns-in_err-leave_bucket-clause-steps : goal.returns-in_err-leave_bucket-clause-steps
returns-in_err-leave_bucket-clause-steps g c = λ wanted members put has shallow.
    steps_then c.buckets.invariant.setup (c.buckets.invariant.steps wanted members put has shallow)
    (λ all mid. let ended = has_ended c.args.depth wanted c.buckets.self c.buckets.writer.next members all mid shallow c.requires.some (omega arith) in
    steps_stop c.from_residual.ensures.1 (c.in_err-leave_bucket.ensures.steps wanted ended.parent ended.parents all ended.at))

pub buckets-preserved : goal.buckets-preserved
buckets-preserved g c = record {
  setup = c.in_ok-leave_bucket.ensures.on.setup ∙ c.buckets.invariant.setup;
  same = record {
    setup = c.in_ok-leave_bucket.ensures.same.setup ∙ c.buckets.invariant.same.setup;
    sink = c.in_ok-leave_bucket.ensures.same.sink ∙ c.buckets.invariant.same.sink;
  };
  ready = c.in_ok-leave_bucket.ensures.on.ready;
  steps = λ wanted members put has shallow.
      steps_then c.buckets.invariant.setup (c.buckets.invariant.steps wanted members put has shallow)
      (λ all mid. let ended = has_ended c.args.depth wanted c.buckets.self c.buckets.writer.next members all mid shallow c.requires.some (omega arith) in
      steps_map (λ then at. left_out wanted c.leave_bucket.new.self c.leave_bucket.new.writer.next ended.parent ended.parents members then ended.members_are at)
      (c.in_ok-leave_bucket.ensures.steps wanted ended.parent ended.parents all ended.at));
}
