use Rattle.bolt_format.proofs.Exports.{Wrote-return_cut, Wrote-then}
use Rattle.bolt_bulk.proofs.page_elements.put_elements.Goals as goal

pub returns-in_err-put_headers : goal.returns-in_err-put_headers
returns-in_err-put_headers g c = Wrote-return_cut _ _ c.in_err-put_headers.ensures c.from_residual.ensures.0

pub returns : goal.returns
returns g c = Wrote-then c.in_ok-put_headers.ensures c.put_data.ensures
