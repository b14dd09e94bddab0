use Rattle.std.proofs.Common.{refl}
use Rattle.bolt_commands.proofs.ReadFiles.{failure_named}
use Rattle.bolt_commands.proofs.opening.Input.read.Goals as goal

pub returns-in_err-checked-clause-refused : goal.returns-in_err-checked-clause-refused
returns-in_err-checked-clause-refused c =
    let refused = c.in_err-checked.ensures.refused in
    let (failure, of, ends) = failure_named c.in_err-checked.field-0.0 _ c.from_residual.ensures.1 in
    rw ends (_, refused, (failure, of, refl))
