use Rattle.std.proofs.Common.{ap}
use Rattle.bolt_format.proofs.Exports.{Wrote-same}
use Rattle.bolt_etcd.specs.{Check.CheckLines.misplaced_line, Wire.ShownRevisions.shown_revision}
use Rattle.bolt_etcd.proofs.check.check_lines.put_misplaced.Goals as goal

pub returns : goal.returns
returns g c = Wrote-same (ap misplaced_line c.decode.ensures) (c.put_record.ensures (shown_revision c.args.revision.now).stored_key)
