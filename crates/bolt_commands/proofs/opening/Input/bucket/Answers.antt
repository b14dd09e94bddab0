use Rattle.std.proofs.Common.{inl, inr}
use Rattle.bolt_commands.proofs.Doing.{ends_as}
use Rattle.bolt_commands.proofs.opening.Input.bucket.Goals as goal

pub returns-in_err-checked-clause-refused : goal.returns-in_err-checked-clause-refused
returns-in_err-checked-clause-refused c =
    rw (ends_as _ c.in_err-checked.field-0.0 c.from_residual.ensures.1) (record { why = inr c.in_err-checked.ensures.refused })

pub returns-in_err-bucket-clause-refused : goal.returns-in_err-bucket-clause-refused
returns-in_err-bucket-clause-refused c =
    let opened = c.in_ok-checked.ensures in
    let (is, nowhere) = rw opened.bytes at c.in_err-bucket.ensures.refused in
    rw (ends_as _ c.in_err-bucket.field-0.0 c.from_residual-in_err-bucket.ensures.1) (record { why = inl (_, opened.sound, nowhere, is) })

pub returns-clause-found : goal.returns-clause-found
returns-clause-found c =
    let opened = c.in_ok-checked.ensures in
    let own = c.in_ok-bucket.ensures.file in
    record { bytes = rw own opened.bytes; under = rw own opened.sound; led = rw own (rw opened.bytes at c.in_ok-bucket.ensures.named) }
