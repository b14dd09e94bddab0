use Rattle.bolt_format.proofs.Exports.{Wrote-return_cut, Wrote-then}
use Rattle.bolt_bulk.proofs.members_copy.put_filled.Goals as goal

pub returns-in_err-put_unless_empty : goal.returns-in_err-put_unless_empty
returns-in_err-put_unless_empty g c = Wrote-return_cut _ _ c.in_err-put_unless_empty.ensures c.from_residual.ensures.0

pub returns : goal.returns
returns g c = Wrote-then c.in_ok-put_unless_empty.ensures c.put_zeros.ensures
