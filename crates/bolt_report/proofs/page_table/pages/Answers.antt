use Rattle.bolt_text.proofs.Exports.{Wrote-passed, Wrote-unbegun}
use Rattle.bolt_report.proofs.page_table.pages.Goals as goal

pub returns-in_err-table-clause-written : goal.returns-in_err-table-clause-written
returns-in_err-table-clause-written g c = λ roles are. Wrote-unbegun _ _ _ c.from_residual.ensures.1

pub returns-in_err-put_page_table-clause-written : goal.returns-in_err-put_page_table-clause-written
returns-in_err-put_page_table-clause-written g c =
    λ roles are. Wrote-passed _ ((rw c.in_ok-table.ensures at c.in_err-put_page_table.ensures) roles are) c.from_residual-in_err-put_page_table.ensures.1

pub returns-clause-written : goal.returns-clause-written
returns-clause-written g c = λ roles are. (rw c.in_ok-table.ensures at c.in_ok-put_page_table.ensures) roles are
