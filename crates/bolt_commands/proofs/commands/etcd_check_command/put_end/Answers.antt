use Rattle.std.proofs.Common.{◌≡◌, ◌≢◌, ℕ, refl, suc, zero}
use Rattle.bolt_report.specs.FaultWords.{count_line}
use Rattle.bolt_commands.specs.EtcdAnswers.{errors_end}
use Rattle.bolt_commands.proofs.commands.etcd_check_command.put_end.Goals as goal

some_errors : (n : ℕ) → n ≢ 0 → errors_end n ≡ count_line n
some_errors zero some = absurd (some refl)
some_errors (suc n) some = refl

pub returns-else-errors-eq0 : goal.returns-else-errors-eq0
returns-else-errors-eq0 g c = rw (some_errors c.args.errors c.if-errors-eq0.false) c.put_error_count.ensures
