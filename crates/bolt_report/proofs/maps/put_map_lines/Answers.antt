use Rattle.std.proofs.Common.{rules, ◌∙◌, arith}
use Rattle.bolt_report.proofs.Words.{length-range_with_len, line_at, range_with_len, roles_checked, Wrote-element, Wrote-element_return}
use Rattle.bolt_report.proofs.Words.{Wrote-elements, Wrote-same}
use Rattle.bolt_report.proofs.PageTableLemmas.{fits_below, next_line, starts_below, positive}
use Rattle.bolt_report.proofs.maps.put_map_lines.Goals as goal

pub page_count-end-requires : goal.page_count-end-requires
page_count-end-requires g c = rw c.checked.ensures (positive (roles_checked c.args.table.now) c.requires)

pub put_line-requires-clause-below : goal.put_line-requires-clause-below
put_line-requires-clause-below g c = search (rules, fits_below, starts_below)

pub returns-in_err-put_line : goal.returns-in_err-put_line
returns-in_err-put_line g c = λ roles are.
    let ends = rw c.checked.ensures at c.page_count-end.ensures in
    let (at, same) = next_line roles _ _ _ (rw (c.div_ceil-line-end.ensures, ends) at c.loop-line-test.true) (rw ends at c.min.ensures) in
    Wrote-element_return (line_at roles _) (range_with_len 0 _) c.loop-line.line c.loop-line.line _ at (c.loop-line.invariant roles are)
    (Wrote-same same (c.in_err-put_line.ensures roles are)) c.from_residual.ensures.0

pub loop-line-preserved : goal.loop-line-preserved
loop-line-preserved g c = λ roles are.
    let ends = rw c.checked.ensures at c.page_count-end.ensures in
    let (at, same) = next_line roles _ _ _ (rw (c.div_ceil-line-end.ensures, ends) at c.loop-line-test.true) (rw ends at c.min.ensures) in
    Wrote-element (line_at roles _) (range_with_len 0 _) c.loop-line.line c.loop-line.line at (c.loop-line.invariant roles are)
    (Wrote-same same (c.in_ok-put_line.ensures roles are))

pub returns : goal.returns
returns g c = λ roles are.
    let count = rw (rw c.checked.ensures at c.page_count-end.ensures) at c.div_ceil-line-end.ensures in
    Wrote-elements (line_at roles _) (range_with_len 0 _) c.loop-line.line
    (length-range_with_len 0 _ ∙ omega (arith, c.loop-line-test.false, c.loop-line.auto.line-end, count)) (c.loop-line.invariant roles are)
