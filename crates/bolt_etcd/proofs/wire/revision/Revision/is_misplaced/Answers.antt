use Rattle.std.proofs.Common.{◌∙◌, ap}
use Rattle.bolt_etcd.specs.{Check.Misplaced.is_misplaced, Wire.ShownRevisions.shown_revision}
use Rattle.bolt_etcd.proofs.wire.revision.Revision.is_misplaced.Goals as goal

pub returns : goal.returns
returns c = c.is_misplaced.ensures (shown_revision c.args.self.now).stored_key ∙ ap is_misplaced c.decode.ensures
