use Rattle.std.proofs.Common.{inl, refl}
use Rattle.bolt_commands.proofs.{Vocabulary.join_failure, Doing.ends_as}
use Rattle.bolt_commands.proofs.opening.join.Goals as goal

pub returns-in_err-joined-clause-refused : goal.returns-in_err-joined-clause-refused
returns-in_err-joined-clause-refused c =
    let searched = c.requires in
    let why = rw searched.bytes at c.in_err-joined.ensures.refused in
    rw (ends_as _ (join_failure c.in_err-joined.field-0.0) c.from_residual.ensures.1) (inl (_, searched.under, (_, _, searched.found, why, refl)))
