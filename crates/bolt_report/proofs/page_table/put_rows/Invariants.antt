use Rattle.bolt_report.proofs.{Words.ForRoles, Words.roles_checked, PageTableLemmas.row_of, PageTableLemmas.rows_in}
use Rattle.bolt_text.proofs.Exports.{WroteLines}
use Rattle.bolt_report.proofs.page_table.put_rows.Given as goal

-- the rows of the pages before this one were written
abbrev pub invariant-loop-id : goal.invariant-loop-id
invariant-loop-id g l =
    ForRoles (roles_checked l.table)
    (λ roles. WroteLines g.S.Sink l.initial.sink l.sink (row_of (roles_checked l.table) roles) (rows_in (roles_checked l.table)) l.id)
