use Rattle.std.proofs.Common.{◌∙◌}
use Rattle.bolt_etcd.proofs.StoredRevisions.{enough, main_of}
use Rattle.bolt_etcd.proofs.wire.revision.Revision.main.Goals as goal

pub read_u64-requires : goal.read_u64-requires
read_u64-requires c = enough c.args.self.now

pub returns : goal.returns
returns c = c.read_u64.ensures ∙ main_of c.args.self.now
