-- The hash goes on with what the target accepts.
use Rattle.bolt_commands.proofs.HashLemmas.{since_put}
use Rattle.bolt_commands.proofs.hashed_copy.HashingSink.put.Goals as goal

pub invariant_of-self : goal.invariant_of-self
invariant_of-self g c = record {
  same = c.args.self.now.same;
  hashed =
      since_put c.put.result g.K.Origin.start (g.T.Sink.taken c.args.self.now.target.now) (g.T.Sink.taken c.put.new.self)
      (g.T.Sink.failed c.args.self.now.target.now) (g.T.Sink.failed c.put.new.self)
      c.args.self.now.hash c.update.new.self c.args.bytes.now c.update.ensures c.put.ensures.all c.put.ensures.sound c.put.ensures.failure
      c.args.self.now.hashed;
}
