use Rattle.bolt_commands.proofs.{Doing.answer_as, Verdicts.after_nothing}
use Rattle.bolt_commands.proofs.commands.check_command.do_check.Goals as goal

pub put_right-requires : goal.put_right-requires
put_right-requires g c = let right = c.in-Right.ensures.is.1 in record { fine = right.fine; sound = right.sound }

pub returns-in-Right : goal.returns-in-Right
returns-in-Right g c =
    answer_as (after_nothing c.in-Right.ensures.is.0 c.put_right.ensures) (λ answer found. (_, c.find.ensures, c.in-Right.ensures.is.1.wanted answer found))

pub returns-in-Wrong : goal.returns-in-Wrong
returns-in-Wrong g c = answer_as c.in-Wrong.ensures.is (λ answer is. (_, c.find.ensures, is.0))
