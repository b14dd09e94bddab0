use Rattle.std.proofs.Common.{arith}
use Rattle.bolt_report.proofs.Words.{id_line, shown_ids, Wrote-element, Wrote-element_return, Wrote-elements}
use Rattle.bolt_report.proofs.page_lines.put_ids.Goals as goal

pub loop-i-preserved : goal.loop-i-preserved
loop-i-preserved g c = Wrote-element id_line (shown_ids c.args.ids.now) c.loop-i.i c.get.result c.get.ensures c.loop-i.invariant c.in_ok-put_id.ensures

pub returns-in_err-put_id : goal.returns-in_err-put_id
returns-in_err-put_id g c =
    Wrote-element_return id_line (shown_ids c.args.ids.now) c.loop-i.i c.get.result _ c.get.ensures c.loop-i.invariant c.in_err-put_id.ensures
    c.from_residual.ensures.0

pub returns : goal.returns
returns g c = Wrote-elements id_line (shown_ids c.args.ids.now) c.loop-i.i (omega arith) c.loop-i.invariant
