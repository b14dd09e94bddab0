use Rattle.std.proofs.Common.{arith, refl}
use Rattle.bolt_cli.proofs.Telling.{DoesDeeds-after}
use Rattle.bolt_cli.proofs.whole_run.close.Goals as goal

pub returns-then-failures-gt0 : goal.returns-then-failures-gt0
returns-then-failures-gt0 g c = λ ending buffered is.
    DoesDeeds-after _ c.drop_output-fault.ensures c.report_unprinted.ensures
    (λ deeds are. (refl, omega (arith, c.failures.ensures, c.if-failures-gt0.true), are))

pub returns-in-Ok : goal.returns-in-Ok
returns-in-Ok g c = λ ending buffered is.
    DoesDeeds-after _ c.in-Ok.ensures (c.end_with.ensures ending buffered is)
    (λ deeds are. (refl, omega (arith, c.failures.ensures, c.if-failures-gt0.false), are))

pub returns-in-Err : goal.returns-in-Err
returns-in-Err g c = λ ending buffered is.
    DoesDeeds-after _ c.in-Err.ensures c.report_unprinted-in-Err.ensures (λ deeds are. (refl, omega (arith, c.failures.ensures, c.if-failures-gt0.false), are))
