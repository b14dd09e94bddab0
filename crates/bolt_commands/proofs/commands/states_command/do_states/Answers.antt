use Rattle.std.proofs.Common.{inl, inr, refl}
use Rattle.bolt_commands.proofs.Doing.{answer_nothing}
use Rattle.bolt_commands.proofs.commands.states_command.do_states.Goals as goal

pub returns-in_err-states : goal.returns-in_err-states
returns-in_err-states g c = answer_nothing _ _ (inr refl) c.from_residual.ensures.1

pub returns : goal.returns
returns g c = record {
  answer = _;
  is = inl (_, _, _, _, c.tried_size-page_size.ensures.size, c.in_ok-states.ensures.metas, c.in_ok-states.ensures.states, refl);
  does = c.put_found_states.ensures;
}
