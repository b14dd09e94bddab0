-- An item, and then a line feed.
use Rattle.std.proofs.Common.{◌∷◌, []}
use Rattle.bolt_text.proofs.{ReportLemmas.Wrote-fault, ReportLemmas.Wrote-passed, ShortTexts.short_fault, Vocabulary.Wrote-then}
use Rattle.bolt_text.proofs.item_writer.ItemWriter.put_line.Goals as goal

pub returns-in_err-put-clause-written : goal.returns-in_err-put-clause-written
returns-in_err-put-clause-written g c = Wrote-fault (10 ∷ []) _ _ c.in_err-put.ensures.written c.from_residual.ensures.1

pub returns-in_err-put-2-clause-written : goal.returns-in_err-put-2-clause-written
returns-in_err-put-2-clause-written g c = Wrote-passed _ (Wrote-then c.in_ok-put.ensures.written c.in_err-put-2.ensures) c.from_residual-in_err-put-2.ensures.1

pub returns-in_err-put-clause-short : goal.returns-in_err-put-clause-short
returns-in_err-put-clause-short g c = short_fault (10 ∷ []) _ _ c.in_err-put.ensures.short c.from_residual.ensures.1
