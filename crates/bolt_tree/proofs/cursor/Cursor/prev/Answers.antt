use Rattle.bolt_tree.proofs.{Words.cursor_place, Words.prev_move, RestingLemmas.moves_prev}
use Rattle.bolt_tree.proofs.{RestingLemmas.moves_prev_start, RestingLemmas.shows_by}
use Rattle.bolt_tree.proofs.TrailLemmas.{no_frames, nonempty}
use Rattle.bolt_tree.specs.Cursors.{cursor_viewers}
use Rattle.bolt_tree.proofs.cursor.Cursor.prev.Goals as goal

pub returns-then-is_empty-clause-moves : goal.returns-then-is_empty-clause-moves
unfolding cursor_viewers
returns-then-is_empty-clause-moves c = shows_by _ _ prev_move (cursor_place c.args.self.now) _ _ _ c.entry_of.ensures.entry
    (moves_prev_start _ _ c.start.ensures.moved _ _ c.args.self.now.resting c.start.result
    (no_frames c.args.self.now.stack.items c.is_empty.result c.is_empty.ensures c.if-is_empty.true) c.start.ensures.found c.start.ensures.past)

pub returns-clause-moves : goal.returns-clause-moves
unfolding cursor_viewers
returns-clause-moves c = shows_by _ _ prev_move (cursor_place c.args.self.now) _ _ _ c.entry_of-2.ensures.entry
    (rw c.go_further.ensures.past (moves_prev _ _ c.go_further.ensures.goes.moved c.args.self.now.is_past c.args.self.now.resting c.go_further.result
    (nonempty c.args.self.now.stack.items c.is_empty.result c.is_empty.ensures c.if-is_empty.false) c.go_further.ensures.goes.found))
