use Rattle.bolt_text.proofs.{ReportLemmas.Wrote-unbegun, ShortTexts.json_some, ShortTexts.short_unbegun}
use Rattle.bolt_text.proofs.item_writer.ItemWriter.put.Goals as goal

pub returns-in_err-item-in-Json-clause-written : goal.returns-in_err-item-in-Json-clause-written
returns-in_err-item-in-Json-clause-written g c = Wrote-unbegun _ _ _ c.from_residual.ensures.1

pub returns-in_err-item-in-Json-clause-short : goal.returns-in_err-item-in-Json-clause-short
returns-in_err-item-in-Json-clause-short g c = rw c.in-Json.is (short_unbegun (json_some c.args.bytes.now))
