use Rattle.std.proofs.Common.{◌∙◌, List, ap, map}
use Rattle.bolt_format.proofs.Exports.{Wrote-same}
use Rattle.bolt_report.specs.{RevisionLines.named_with, RevisionLines.revision_lines}
use Rattle.bolt_etcd.specs.{Wire.Revisions.RevisionView, Wire.ShownRevisions.shown_revision}
use Rattle.bolt_etcd.proofs.Exports.{Wrote-given, current_once}
use Rattle.bolt_report.proofs.revision_lines.RevisionWriter.put_current.Goals as goal

pub returns-in_err-put_all-clause-written : goal.returns-in_err-put_all-clause-written
returns-in_err-put_all-clause-written g c = λ entries are current is.
    let same = ap (map shown_revision) c.deref.ensures.value ∙ current_once _ _ current (c.in_ok-current.ensures.keys entries are) is in
    Wrote-same (ap (λ (rs : List RevisionView). revision_lines c.args.self.now.items.form c.args.self.now.values (named_with c.args.prefix.now rs)) same)
    (Wrote-given _ _ c.in_err-put_all.ensures.written c.from_residual-in_err-put_all.ensures.1)

pub returns-clause-written : goal.returns-clause-written
returns-clause-written g c = λ entries are current is.
    let same = ap (map shown_revision) c.deref.ensures.value ∙ current_once _ _ current (c.in_ok-current.ensures.keys entries are) is in
    Wrote-same (ap (λ (rs : List RevisionView). revision_lines c.args.self.now.items.form c.args.self.now.values (named_with c.args.prefix.now rs)) same)
    c.in_ok-put_all.ensures.written
