use Rattle.bolt_report.proofs.Words.{Wrote-return, Wrote-then}
use Rattle.bolt_report.proofs.page_lines.PageWithIds.put.Goals as goal

pub returns-in_err-put_head : goal.returns-in_err-put_head
returns-in_err-put_head g c = Wrote-return _ _ c.in_err-put_head.ensures c.from_residual.ensures.0

pub returns : goal.returns
returns g c = Wrote-then c.in_ok-put_head.ensures c.put_items.ensures
