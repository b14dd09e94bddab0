use Rattle.std.proofs.Common.{◌≡◌, drop, flat_map, map}
use Rattle.bolt_format.proofs.Exports.{WroteFront}
use Rattle.bolt_report.specs.{RevisionLines.prefix_line}
use Rattle.bolt_etcd.specs.{Wire.ShownRevisions.shown_revision}
use Rattle.bolt_report.proofs.revision_lines.RevisionWriter.put_all.Given as goal

-- the lines of those that are left are still to be written
abbrev pub invariant-rest : goal.invariant-rest
invariant-rest g l = record {
  form : l.self.items.form ≡ l.fn.self.items.form;
  values : l.self.values ≡ l.fn.self.values;
  put : WroteFront g.S.Sink l.initial.sink l.sink (flat_map (prefix_line l.prefix l.fn.self.items.form l.fn.self.values) (map shown_revision l.revisions))
      (flat_map (prefix_line l.prefix l.fn.self.items.form l.fn.self.values) (map shown_revision (drop l.revision-index l.revisions)));
}
