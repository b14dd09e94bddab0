use Rattle.std.proofs.Common.{inl, inr, refl}
use Rattle.bolt_commands.proofs.Doing.{answer_nothing, answer_put}
use Rattle.bolt_commands.proofs.commands.info_command.do_info.Goals as goal

pub returns-in_err-slot : goal.returns-in_err-slot
returns-in_err-slot g c = answer_nothing _ _ (inr (_, c.in_err-slot.ensures.none, refl)) c.from_residual.ensures.1

pub returns : goal.returns
returns g c = rw c.end_write.ensures (answer_put _ c.info.result (inl (_, _, c.in_ok-slot.ensures.found, refl)) c.info.ensures)
