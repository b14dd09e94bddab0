use Rattle.std.proofs.Common.{◌≡◌, ◌-◌, arith, suc, sym}
use Rattle.bolt_cli.proofs.Telling.{DoesDeeds-after}
use Rattle.bolt_cli.proofs.whole_run.+read_file.Goals as goal

pub returns-then-is_changed : goal.returns-then-is_changed
returns-then-is_changed g t c =
    let left : c.args.left ≡ suc (c.args.left - 1) = omega (arith, c.if-left-eq0.false) in
    DoesDeeds-after _ c.in-Ok.ensures c.read_file.ensures (λ deeds reads. rw left (c.file.ensures, rw (sym c.if-is_changed.ensures) reads))

pub returns-else-is_changed : goal.returns-else-is_changed
returns-else-is_changed g t c =
    let left : c.args.left ≡ suc (c.args.left - 1) = omega (arith, c.if-left-eq0.false) in
    DoesDeeds-after _ c.in-Ok.ensures c.do_with_source.ensures (λ deeds goes. rw left (c.file.ensures, rw (sym c.if-is_changed.ensures) goes))

pub returns-in-Err : goal.returns-in-Err
returns-in-Err g t c =
    let left : c.args.left ≡ suc (c.args.left - 1) = omega (arith, c.if-left-eq0.false) in
    DoesDeeds-after _ c.in-Err.ensures c.report_unread.ensures (λ deeds fails. rw left (c.file.ensures, rw c.file-in-Err.ensures at fails))
