use Rattle.std.proofs.Common.{[], ◌∷◌}
use Rattle.bolt_text.proofs.{Vocabulary.decimal, Vocabulary.line, GatherLemmas.Gathers-return, GatherLemmas.Gathers-then}
use Rattle.bolt_text.specs.Lines.{figure_line}
use Rattle.bolt_text.proofs.pieces.put_figure.Goals as goal

pub returns-in_err-put_bytes : goal.returns-in_err-put_bytes
unfolding figure_line
returns-in_err-put_bytes g c = Gathers-return _ _ c.in_err-put_bytes.ensures c.from_residual.ensures.0

pub returns-in_err-put_bytes-2 : goal.returns-in_err-put_bytes-2
unfolding figure_line
returns-in_err-put_bytes-2 g c =
    Gathers-then c.in_ok-put_bytes.ensures
    (Gathers-return (line (decimal c.args.n)) _ c.in_err-put_bytes-2.ensures c.from_residual-in_err-put_bytes-2.ensures.0)

pub returns-in_err-put_number : goal.returns-in_err-put_number
unfolding figure_line
returns-in_err-put_number g c =
    Gathers-then c.in_ok-put_bytes.ensures (Gathers-then c.in_ok-put_bytes-2.ensures
    (Gathers-return (10 ∷ []) _ c.in_err-put_number.ensures c.from_residual-in_err-put_number.ensures.0))

pub returns : goal.returns
unfolding figure_line
returns g c = Gathers-then c.in_ok-put_bytes.ensures (Gathers-then c.in_ok-put_bytes-2.ensures (Gathers-then c.in_ok-put_number.ensures c.put_bytes-3.ensures))
