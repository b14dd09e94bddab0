use Rattle.std.proofs.Common.{ap, ◌∙◌}
use Rattle.bolt_etcd.specs.{Check.Follows.creates, Check.Follows.follows, Wire.ShownRevisions.shown_revision}
use Rattle.bolt_etcd.proofs.wire.revision.Revision.creates.Goals as goal

pub returns : goal.returns
unfolding follows
returns c = c.creates.ensures (shown_revision c.args.self.now).stored_key ∙ ap creates c.decode.ensures
