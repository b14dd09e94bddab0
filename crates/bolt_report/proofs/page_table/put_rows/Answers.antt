use Rattle.std.proofs.Common.{arith}
use Rattle.bolt_report.proofs.Words.{bytes_of, meta_of, roles_checked, Wrote-element, Wrote-element_return, Wrote-elements, Wrote-same}
use Rattle.bolt_report.proofs.PageTableLemmas.{fits_below, next_row, positive, row_of, rows_in}
use Rattle.bolt_report.proofs.page_table.put_rows.Goals as goal

pub page_count-end-requires : goal.page_count-end-requires
page_count-end-requires g c = rw c.checked-checked.ensures (positive (roles_checked c.args.table.now) c.requires)

pub role-requires : goal.role-requires
role-requires g c =
    let checked = roles_checked c.args.table.now in
    let below = rw (c.page_count-end.ensures, c.checked-checked.ensures) at c.loop-id-test.true in
    omega (arith, below, fits_below (bytes_of checked) (meta_of checked))

pub put_row-requires : goal.put_row-requires
put_row-requires g c = rw c.checked-checked.ensures c.role.ensures

pub returns-in_err-put_row : goal.returns-in_err-put_row
returns-in_err-put_row g c = λ roles are.
    let below = rw (c.page_count-end.ensures, c.checked-checked.ensures) at c.loop-id-test.true in
    let (at, same) = next_row (roles_checked c.args.table.now) c.requires roles are c.loop-id.id c.role.result below c.role.ensures in
    Wrote-element_return (row_of (roles_checked c.args.table.now) roles) (rows_in (roles_checked c.args.table.now)) c.loop-id.id c.loop-id.id _ at
    (c.loop-id.invariant roles are)
    (Wrote-same same (rw c.checked-checked.ensures at c.in_err-put_row.ensures)) c.from_residual.ensures.0

pub loop-id-preserved : goal.loop-id-preserved
loop-id-preserved g c = λ roles are.
    let below = rw (c.page_count-end.ensures, c.checked-checked.ensures) at c.loop-id-test.true in
    let (at, same) = next_row (roles_checked c.args.table.now) c.requires roles are c.loop-id.id c.role.result below c.role.ensures in
    Wrote-element (row_of (roles_checked c.args.table.now) roles) (rows_in (roles_checked c.args.table.now)) c.loop-id.id
    c.loop-id.id at (c.loop-id.invariant roles are) (Wrote-same same (rw c.checked-checked.ensures at c.in_ok-put_row.ensures))

pub returns : goal.returns
returns g c = λ roles are.
    let ends = rw c.checked-checked.ensures at c.page_count-end.ensures in
    Wrote-elements (row_of (roles_checked c.args.table.now) roles) (rows_in (roles_checked c.args.table.now)) c.loop-id.id
    (omega (arith, c.loop-id-test.false, c.loop-id.auto.id-end, ends)) (c.loop-id.invariant roles are)
