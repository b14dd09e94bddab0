-- The end of the line comes after the bounds.
use Rattle.std.proofs.Common.{◌++◌, ◌∷◌, [], List, ℕ, ap, append_assoc, append-nil, sym}
use Rattle.std.specs.Prelude.{codes}
use Rattle.bolt_report.proofs.Words.{Wrote-same}
use Rattle.bolt_text.specs.NamedPaths.{named_key}
use Rattle.bolt_report.proofs.loss_lines.put_bounds.Goals as goal

pub returns-in-Some-None : goal.returns-in-Some-None
returns-in-Some-None g c =
    rw (c.in-Some-None.is-0, c.in-Some-None.is-1)
    (Wrote-same (ap (λ (l : List ℕ). codes ", keys from " ++ (l ++ 10 ∷ [])) (sym (append-nil (named_key c.in-Some-None.from.now)))) c.put_pieces.ensures)

pub returns-in-Some-Some : goal.returns-in-Some-Some
returns-in-Some-Some g c =
    rw (c.in-Some-Some.is-0, c.in-Some-Some.is-1)
    (Wrote-same (ap (λ (l : List ℕ). codes ", keys from " ++ l)
    (sym (append_assoc (named_key c.in-Some-Some.from.now) (codes " to below " ++ named_key c.in-Some-Some.end.now) (10 ∷ []))))
    c.put_pieces-in-Some-Some.ensures)
