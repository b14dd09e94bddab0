use Rattle.std.proofs.Common.{ap}
use Rattle.bolt_report.proofs.Words.{past_line, Wrote-return, Wrote-same, Wrote-then, Wrote-then_return}
use Rattle.bolt_report.proofs.page_table.put_page_table.Goals as goal

pub returns-in_err-put_table_head : goal.returns-in_err-put_table_head
returns-in_err-put_table_head g c = λ roles are. Wrote-return _ _ c.in_err-put_table_head.ensures c.from_residual.ensures.0

pub returns-in_err-put_rows : goal.returns-in_err-put_rows
returns-in_err-put_rows g c =
    λ roles are. Wrote-then_return _ _ c.in_ok-put_table_head.ensures (c.in_err-put_rows.ensures roles are) c.from_residual-in_err-put_rows.ensures.0

pub returns : goal.returns
returns g c = λ roles are.
    Wrote-then c.in_ok-put_table_head.ensures
    (Wrote-then (c.in_ok-put_rows.ensures roles are) (Wrote-same (ap past_line (c.free_past.ensures roles are)) c.put_past.ensures))
