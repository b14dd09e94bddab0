use Rattle.std.proofs.Common.{◌∙◌}
use Rattle.bolt_recover.proofs.Words.{IfOk-weaker, merely}
use Rattle.bolt_recover.proofs.StatesKept.{counted_state}
use Rattle.bolt_recover.specs.ShownStates.{place_view}
use Rattle.bolt_recover.proofs.states.named_state.Goals as goal

pub returns-in-Ok : goal.returns-in-Ok
returns-in-Ok c =
    let file = c.args.file.now in
    let place = place_view c.args.place in
    let root = rw c.place_meta.ensures at c.in-Ok.ensures.root in
    let under = c.in-Ok.ensures.meta ∙ c.place_meta.ensures in
    let counted = rw (c.in-Ok.ensures.file, under) at c.state_of.ensures in
    IfOk-weaker _ _ _ (λ o is. counted_state file place o root is) counted

pub returns-in-Err-Lost : goal.returns-in-Err-Lost
returns-in-Err-Lost c =
    merely (c.in-Err-Lost.field-0-0, rw (c.in-Err-Lost.field-0-is, c.place_meta.ensures) at c.in-Err-Lost.ensures.refused)
