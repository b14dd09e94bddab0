-- The next zeros are not put whole.
use Rattle.std.proofs.Common.{arith}
use Rattle.bolt_bulk.proofs.FilledTexts.{zeros_left, zeros}
use Rattle.bolt_format.proofs.Exports.{front_return, fronts}
use Rattle.bolt_bulk.proofs.page_pieces.put_zeros.Goals as goal

pub returns-in_err-put_unless_empty : goal.returns-in_err-put_unless_empty
returns-in_err-put_unless_empty g c =
    front_return _ _ c.loop-left.invariant c.in_err-put_unless_empty.ensures
    (zeros_left c.loop-left.left c.min-size.result (omega (arith, c.min-size.ensures)) (omega (arith, c.min-size.ensures))) c.from_residual.ensures.0

pub loop-left-preserved : goal.loop-left-preserved
loop-left-preserved g c = grind (arith, fronts, zeros_left, zeros)
