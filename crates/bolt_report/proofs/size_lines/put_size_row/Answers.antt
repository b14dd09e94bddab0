use Rattle.bolt_text.proofs.Exports.{Wrote-sink}
use Rattle.bolt_report.proofs.size_lines.put_size_row.Goals as goal

pub returns-in_err-put_columns-clause-written : goal.returns-in_err-put_columns-clause-written
returns-in_err-put_columns-clause-written g c = Wrote-sink _ _ c.in_err-put_columns.ensures c.from_residual.ensures.1
