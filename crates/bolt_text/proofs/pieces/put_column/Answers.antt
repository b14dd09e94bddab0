use Rattle.bolt_text.proofs.GatherLemmas.{Gathers-return, Gathers-then}
use Rattle.bolt_text.specs.Lines.{column}
use Rattle.bolt_text.proofs.pieces.put_column.Goals as goal

pub returns-in_err-put_bytes : goal.returns-in_err-put_bytes
unfolding column
returns-in_err-put_bytes g c = Gathers-return _ _ c.in_err-put_bytes.ensures c.from_residual.ensures.0

pub returns : goal.returns
unfolding column
returns g c = Gathers-then c.in_ok-put_bytes.ensures (rw c.saturating_sub.ensures at c.put_spaces.ensures)
