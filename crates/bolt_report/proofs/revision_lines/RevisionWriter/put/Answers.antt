use Rattle.std.proofs.Common.{◌∙◌, ap}
use Rattle.bolt_format.proofs.Exports.{Wrote-same, Wrote-then}
use Rattle.bolt_text.proofs.Exports.{Wrote-fault, Wrote-passed, Wrote-sink}
use Rattle.bolt_text.specs.declared.forms.Form.{Form}
use Rattle.bolt_report.specs.{RevisionLines.line_end, RevisionLines.revision_line, RevisionLines.value_part}
use Rattle.bolt_etcd.specs.{Wire.ShownRevisions.shown_decoded, Wire.ShownRevisions.shown_revision}
use Rattle.bolt_report.proofs.revision_lines.RevisionWriter.put.Goals as goal

pub returns-in_err-put_head-clause-written : goal.returns-in_err-put_head-clause-written
returns-in_err-put_head-clause-written g c =
    Wrote-same (ap (revision_line c.args.self.now.items.form c.args.self.now.values) c.decode-decoded.ensures)
    (Wrote-sink _ _ (c.in_err-put_head.ensures (shown_revision c.args.revision.now).stored_key) c.from_residual.ensures.1)

pub returns-in_err-put-clause-written : goal.returns-in_err-put-clause-written
returns-in_err-put-clause-written g c =
    Wrote-same (ap (revision_line c.args.self.now.items.form c.args.self.now.values) c.decode-decoded.ensures)
    (Wrote-then (c.in_ok-put_head.ensures (shown_revision c.args.revision.now).stored_key)
    (Wrote-fault _ _ _ c.in_err-put.ensures.written c.from_residual-in_err-put.ensures.1))

pub returns-in_err-put_value-clause-written : goal.returns-in_err-put_value-clause-written
returns-in_err-put_value-clause-written g c =
    Wrote-same (ap (revision_line c.args.self.now.items.form c.args.self.now.values) c.decode-decoded.ensures)
    (Wrote-then (c.in_ok-put_head.ensures (shown_revision c.args.revision.now).stored_key) (Wrote-then c.in_ok-put.ensures.written
    (Wrote-fault (line_end c.args.self.now.items.form) _ _
    (Wrote-same (ap (λ (form : Form).
    value_part form c.args.self.now.values (shown_decoded (shown_revision c.args.revision.now).stored_key c.decode-decoded.result))
    c.in_ok-put.ensures.form) (c.in_err-put_value.ensures.written (shown_revision c.args.revision.now).stored_key))
    c.from_residual-in_err-put_value.ensures.1)))

pub returns-in_err-put-2-clause-written : goal.returns-in_err-put-2-clause-written
returns-in_err-put-2-clause-written g c =
    Wrote-same (ap (revision_line c.args.self.now.items.form c.args.self.now.values) c.decode-decoded.ensures)
    (Wrote-then (c.in_ok-put_head.ensures (shown_revision c.args.revision.now).stored_key) (Wrote-then c.in_ok-put.ensures.written (Wrote-then
    (Wrote-same (ap (λ (form : Form).
    value_part form c.args.self.now.values (shown_decoded (shown_revision c.args.revision.now).stored_key c.decode-decoded.result))
    c.in_ok-put.ensures.form) (c.in_ok-put_value.ensures.written (shown_revision c.args.revision.now).stored_key))
    (Wrote-same (c.line_end.ensures ∙ ap line_end (c.in_ok-put_value.ensures.form ∙ c.in_ok-put.ensures.form))
    (Wrote-passed _ c.in_err-put-2.ensures c.from_residual-in_err-put-2.ensures.1)))))

pub returns-clause-written : goal.returns-clause-written
returns-clause-written g c =
    Wrote-same (ap (revision_line c.args.self.now.items.form c.args.self.now.values) c.decode-decoded.ensures)
    (Wrote-then (c.in_ok-put_head.ensures (shown_revision c.args.revision.now).stored_key) (Wrote-then c.in_ok-put.ensures.written (Wrote-then
    (Wrote-same (ap (λ (form : Form).
    value_part form c.args.self.now.values (shown_decoded (shown_revision c.args.revision.now).stored_key c.decode-decoded.result))
    c.in_ok-put.ensures.form) (c.in_ok-put_value.ensures.written (shown_revision c.args.revision.now).stored_key))
    (Wrote-same (c.line_end.ensures ∙ ap line_end (c.in_ok-put_value.ensures.form ∙ c.in_ok-put.ensures.form)) c.in_ok-put-2.ensures))))
