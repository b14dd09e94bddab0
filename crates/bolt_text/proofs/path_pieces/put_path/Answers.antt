use Rattle.bolt_text.proofs.GatherLemmas.{Gathers-return, Gathers-same, Gathers-then, path_parts}
use Rattle.bolt_text.proofs.path_pieces.put_path.Goals as goal

pub returns : goal.returns
returns g c =
    rw c.in-Some.ensures.cases.0
    (Gathers-same (path_parts c.args.form c.in-Some.first.now c.in-Some.rest.now) (Gathers-then c.in_ok-put_path_part.ensures c.put_parts_after.ensures))

pub returns-in_err-put_path_part : goal.returns-in_err-put_path_part
returns-in_err-put_path_part g c =
    rw c.in-Some.ensures.cases.0
    (Gathers-same (path_parts c.args.form c.in-Some.first.now c.in-Some.rest.now) (Gathers-return _ _ c.in_err-put_path_part.ensures c.from_residual.ensures.0))
