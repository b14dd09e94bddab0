use Rattle.std.proofs.Common.{append_assoc, append-nil}
use Rattle.bolt_format.proofs.Exports.{Wrote-same}
use Rattle.bolt_etcd.proofs.check.check_lines.put_no_revision.Goals as goal

pub returns : goal.returns
returns g c = Wrote-same (simp (append_assoc, append-nil)) c.put_pieces.ensures
