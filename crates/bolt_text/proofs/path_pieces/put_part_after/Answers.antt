use Rattle.bolt_text.proofs.GatherLemmas.{Gathers-return, Gathers-then}
use Rattle.bolt_text.proofs.path_pieces.put_part_after.Goals as goal

pub returns-in_err-put_bytes : goal.returns-in_err-put_bytes
returns-in_err-put_bytes g c = rw (← c.separator.ensures) (Gathers-return _ _ c.in_err-put_bytes.ensures c.from_residual.ensures.0)

pub returns : goal.returns
returns g c = rw (← c.separator.ensures) (Gathers-then c.in_ok-put_bytes.ensures c.put_path_part.ensures)
