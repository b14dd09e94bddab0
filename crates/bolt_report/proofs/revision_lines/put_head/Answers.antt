use Rattle.std.proofs.Common.{◌∙◌, sym}
use Rattle.std.proofs.lemmas.Bool.{cond-false, cond-true}
use Rattle.bolt_format.proofs.Exports.{Wrote-same}
use Rattle.bolt_report.proofs.revision_lines.put_head.Goals as goal

pub returns-then-is_json : goal.returns-then-is_json
returns-then-is_json g c = λ place. Wrote-same (sym (cond-true _ _ _ (sym c.is_json.ensures ∙ c.if-is_json.true))) (c.put_revision_members.ensures place)

pub returns-else-is_json : goal.returns-else-is_json
returns-else-is_json g c = λ place. Wrote-same (sym (cond-false _ _ _ (sym c.is_json.ensures ∙ c.if-is_json.false))) (c.put_revision_columns.ensures place)
