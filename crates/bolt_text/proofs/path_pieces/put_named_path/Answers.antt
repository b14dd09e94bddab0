use Rattle.bolt_text.proofs.GatherLemmas.{Gathers-return, Gathers-then}
use Rattle.bolt_text.specs.NamedPaths.{named_path}
use Rattle.bolt_text.proofs.path_pieces.put_named_path.Goals as goal

pub returns-in_err-put_path : goal.returns-in_err-put_path
unfolding named_path
returns-in_err-put_path g c = Gathers-return _ _ c.in_err-put_path.ensures c.from_residual.ensures.0

pub returns : goal.returns
unfolding named_path
returns g c = Gathers-then c.in_ok-put_path.ensures c.put_text_after.ensures
