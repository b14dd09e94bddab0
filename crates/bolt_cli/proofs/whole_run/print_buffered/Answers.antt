use Rattle.std.proofs.Common.{◌≡◌, ◌-◌, ◌∙◌, arith, suc, sym}
use Rattle.std.proofs.lemmas.Option.{same_Some}
use Rattle.bolt_cli.proofs.Telling.{DoesDeeds-as}
use Rattle.bolt_cli.proofs.whole_run.print_buffered.Goals as goal

pub returns-then-failures-gt0 : goal.returns-then-failures-gt0
returns-then-failures-gt0 g c = λ text holds ending buffered code.
    let some : c.args.out.now.failures ≡ suc (c.args.out.now.failures - 1) = omega (arith, c.failures.ensures, c.if-failures-gt0.true) in
    DoesDeeds-as c.fail_lacking.ensures (λ deeds fails. rw some fails)

pub returns-else-failures-gt0 : goal.returns-else-failures-gt0
returns-else-failures-gt0 g c = λ text holds ending buffered code.
    let none : c.args.out.now.failures ≡ 0 = omega (arith, c.failures.ensures, c.if-failures-gt0.false) in
    let same : c.bytes.result.now ≡ text = same_Some _ _ (sym c.bytes.ensures ∙ holds) in
    DoesDeeds-as (c.print.ensures ending buffered code) (λ deeds prints. rw (none, ← same) prints)
