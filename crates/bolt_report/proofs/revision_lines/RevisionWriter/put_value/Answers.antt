use Rattle.std.proofs.Common.{◌∙◌, ◌++◌, List, ℕ, ap, sym}
use Rattle.std.proofs.lemmas.Bool.{cond-true}
use Rattle.bolt_format.proofs.Exports.{Wrote-same}
use Rattle.bolt_text.specs.Forms.{item_text}
use Rattle.bolt_text.proofs.Exports.{Wrote-sink}
use Rattle.bolt_report.proofs.revision_lines.RevisionWriter.put_value.Goals as goal

pub returns-in_err-put-clause-written : goal.returns-in_err-put-clause-written
returns-in_err-put-clause-written g c = λ place.
    Wrote-same
    (ap (λ (mark : List ℕ). mark ++ item_text c.args.self.now.items.form c.args.revision.now.content.value.now) c.value_mark.ensures
    ∙ sym (cond-true c.args.self.now.values _ _ c.if-not-self.false))
    (Wrote-sink (item_text c.args.self.now.items.form c.args.revision.now.content.value.now) _ c.in_err-put.ensures c.from_residual.ensures.1)
