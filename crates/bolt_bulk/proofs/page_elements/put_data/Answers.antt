-- The next key isn't put whole, or the next value.
use Rattle.std.proofs.Common.{refl}
use Rattle.bolt_format.proofs.Exports.{front_more, front_return}
use Rattle.bolt_bulk.proofs.ElementPuts.{data_left}
use Rattle.bolt_bulk.proofs.page_elements.put_data.Goals as goal

pub returns-in_err-put_unless_empty : goal.returns-in_err-put_unless_empty
returns-in_err-put_unless_empty g c =
    front_return _ _ c.loop-element.invariant (rw c.key.ensures at c.in_err-put_unless_empty.ensures)
    (data_left _ _ _ _ _ c.loop-element-test.true c.element-item.is) c.from_residual.ensures.0

pub returns-in_err-put_value : goal.returns-in_err-put_value
returns-in_err-put_value g c =
    let put =
    front_more c.loop-element.invariant (rw c.key.ensures at c.in_ok-put_unless_empty.ensures)
    (data_left _ _ _ _ _ c.loop-element-test.true c.element-item.is) in
    front_return _ _ put c.in_err-put_value.ensures refl c.from_residual-in_err-put_value.ensures.0

pub loop-element-preserved : goal.loop-element-preserved
loop-element-preserved g c =
    let put =
    front_more c.loop-element.invariant (rw c.key.ensures at c.in_ok-put_unless_empty.ensures)
    (data_left _ _ _ _ _ c.loop-element-test.true c.element-item.is) in
    front_more put c.in_ok-put_value.ensures refl
