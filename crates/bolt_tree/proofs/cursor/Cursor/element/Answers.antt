use Rattle.std.proofs.Common.{List, Some, subst, sym}
use Rattle.bolt_tree.proofs.{Standing.entry_on, Standing.top_rests, Standing.topped, RestingLemmas.resting_rest, RestingLemmas.resting_stack}
use Rattle.bolt_tree.proofs.Words.{Frame, IsOn, cursor_trail, leaf_view}
use Rattle.bolt_tree.specs.Cursors.{cursor_viewers}
use Rattle.bolt_tree.proofs.cursor.Cursor.element.Goals as goal

pub returns-clause-entry : goal.returns-clause-entry
unfolding cursor_viewers
returns-clause-entry c =
    let was = c.args.self.now in
    let at =
    topped (cursor_trail was) c.deref.result.now c.in_ok-top.top.now c.deref.ensures.0 c.in_ok-top.ensures.value (resting_stack _ _ was.resting)
    (resting_rest _ _ was.resting) in
    let rests =
    top_rests (cursor_trail was) c.deref.result.now c.in_ok-top.top.now c.deref.ensures.0 c.in_ok-top.ensures.value (resting_stack _ _ was.resting)
    (resting_rest _ _ was.resting) in
    entry_on (cursor_trail was) was.is_past was.resting (Some c.element.result)
    (subst (λ (frames : List Frame). IsOn frames (leaf_view c.element.result)) (sym at) (rw c.in-Leaf.is (rests.some, c.element.ensures.element)))
