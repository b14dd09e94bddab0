use Rattle.std.proofs.Common.{refl}
use Rattle.bolt_tree.proofs.Words.{cursor_place}
use Rattle.bolt_tree.proofs.RestingLemmas.{moves_first, not_past_resting, not_past_still, opens_first, shows_by}
use Rattle.bolt_tree.specs.Places.{to_first}
use Rattle.bolt_tree.specs.Cursors.{cursor_viewers}
use Rattle.bolt_tree.proofs.cursor.Cursor.first.Goals as goal

pub invariant_of-self : goal.invariant_of-self
invariant_of-self c = record { resting = not_past_resting _ _ c.args.self.now.resting }

pub returns-clause-moves : goal.returns-clause-moves
unfolding cursor_viewers
returns-clause-moves c = shows_by _ _ to_first (cursor_place c.args.self.now) _ _ _ c.entry_of.ensures.entry
    (rw (not_past_still _ _ c.start.result c.start.ensures.past refl)
    (moves_first _ _ c.start.ensures.moved _ c.args.self.now.resting c.start.result (cursor_place c.args.self.now) c.start.ensures.found))

pub returns-clause-opens : goal.returns-clause-opens
unfolding cursor_viewers
returns-clause-opens c = opens_first _ _ c.start.ensures.moved _ c.args.self.now.resting c.start.result _ _ c.start.ensures.found c.start.ensures.opened
