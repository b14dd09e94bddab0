use Rattle.std.proofs.Common.{◌∙◌, arith, sym}
use Rattle.bolt_tree.proofs.Words.{cursor_trail}
use Rattle.bolt_tree.proofs.{TakingNext.moves_there, TakingNext.opens_none, TakingNext.opens_there, TakingNext.rests_there, TakingNext.stays_there}
use Rattle.bolt_tree.proofs.{TrailLemmas.filled, TrailLemmas.unfilled}
use Rattle.bolt_tree.proofs.RestingLemmas.{moves_next, moves_next_first, not_past_still, opens_next, opens_next_first}
use Rattle.bolt_tree.specs.Cursors.{cursor_viewers}
use Rattle.bolt_tree.proofs.cursor.Cursor.next_element.Goals as goal

pub returns-in_default-clause-moves : goal.returns-in_default-clause-moves
unfolding cursor_viewers
returns-in_default-clause-moves c =
    let cursor = c.args.self.now in
    rw (not_past_still _ _ c.start.result c.start.ensures.past c.if-self.false ∙ sym c.if-self.false)
    (moves_next_first _ _ c.start.ensures.moved cursor.is_past cursor.resting c.start.result
    (unfilled cursor.stack.items c.len.result c.len.ensures.value c.in_default.ensures) c.if-self.false c.start.ensures.found)

pub returns-in_default-clause-opens : goal.returns-in_default-clause-opens
unfolding cursor_viewers
returns-in_default-clause-opens c =
    let cursor = c.args.self.now in
    opens_next_first _ _ c.start.ensures.moved cursor.is_past cursor.resting c.start.result
    (unfilled cursor.stack.items c.len.result c.len.ensures.value c.in_default.ensures) _ _
    c.if-self.false c.start.ensures.found c.start.ensures.opened

pub invariant_of-self : goal.invariant_of-self
invariant_of-self c = record {
  resting =
      rests_there (cursor_trail c.args.self.now) c.args.self.now.is_past c.args.self.now.resting c.deref.result.now c.len.result c.in-Some.last
      c.index-deref-last.result c.len.ensures.value c.in-Some.ensures.0 c.in-Some.ensures.1
      c.index-deref-last.is c.deref.ensures.0 c.in-Leaf.page c.in-Leaf.is
      c.deref_mut.result.now c.index-deref_mut-last.result c.index-deref_mut-last-then-top-from.result c.deref_mut.ensures.value
      (omega (arith, c.if-top-from.true, c.from.ensures, c.count.ensures))
      (omega (arith, c.if-top-from.true, c.from.ensures, c.count.type_inv)) c.element-leaf.result c.element-leaf.ensures.element c.element-leaf.ensures.bucket;
}

pub returns-then-top-from-clause-moves : goal.returns-then-top-from-clause-moves
unfolding cursor_viewers
returns-then-top-from-clause-moves c =
    moves_there (cursor_trail c.args.self.now) c.args.self.now.is_past c.args.self.now.resting c.deref.result.now c.len.result c.in-Some.last
    c.index-deref-last.result c.len.ensures.value c.in-Some.ensures.0 c.in-Some.ensures.1
    c.index-deref-last.is c.deref.ensures.0 c.in-Leaf.page c.in-Leaf.is
    c.deref_mut.result.now c.index-deref_mut-last.result c.index-deref_mut-last-then-top-from.result c.deref_mut.ensures.value
    (omega (arith, c.if-top-from.true, c.from.ensures, c.count.ensures))
    (omega (arith, c.if-top-from.true, c.from.ensures, c.count.type_inv)) c.element-leaf.result c.element-leaf.ensures.element c.element-leaf.ensures.bucket

pub returns-then-top-from-clause-opens : goal.returns-then-top-from-clause-opens
unfolding cursor_viewers
returns-then-top-from-clause-opens c =
    opens_there (cursor_trail c.args.self.now) c.args.self.now.is_past c.args.self.now.resting c.deref.result.now c.len.result c.in-Some.last
    c.index-deref-last.result c.len.ensures.value c.in-Some.ensures.0 c.in-Some.ensures.1
    c.index-deref-last.is c.deref.ensures.0 c.in-Leaf.page c.in-Leaf.is
    c.deref_mut.result.now c.index-deref_mut-last.result c.index-deref_mut-last-then-top-from.result c.deref_mut.ensures.value
    (omega (arith, c.if-top-from.true, c.from.ensures, c.count.ensures))
    (omega (arith, c.if-top-from.true, c.from.ensures, c.count.type_inv)) c.element-leaf.result c.element-leaf.ensures.element c.element-leaf.ensures.bucket

pub returns-then-last-eq0-clause-moves : goal.returns-then-last-eq0-clause-moves
unfolding cursor_viewers
returns-then-last-eq0-clause-moves c =
    stays_there (cursor_trail c.args.self.now) c.args.self.now.is_past c.args.self.now.resting c.deref.result.now c.len.result c.in-Some.last
    c.index-deref-last.result c.len.ensures.value c.in-Some.ensures.0 c.in-Some.ensures.1
    c.index-deref-last.is c.deref.ensures.0 c.in-Leaf.page c.in-Leaf.is (omega (arith, c.if-top-from.false, c.from.ensures, c.count.ensures)) c.if-last-eq0.true

pub returns-then-last-eq0-clause-opens : goal.returns-then-last-eq0-clause-opens
unfolding cursor_viewers
returns-then-last-eq0-clause-opens c =
    opens_none (cursor_trail c.args.self.now) c.args.self.now.is_past c.args.self.now.resting c.deref.result.now c.len.result c.in-Some.last
    c.index-deref-last.result c.len.ensures.value c.in-Some.ensures.0 c.in-Some.ensures.1
    c.index-deref-last.is c.deref.ensures.0 c.in-Leaf.page c.in-Leaf.is (omega (arith, c.if-top-from.false, c.from.ensures, c.count.ensures)) c.if-last-eq0.true

pub returns-clause-moves : goal.returns-clause-moves
unfolding cursor_viewers
returns-clause-moves c =
    let cursor = c.args.self.now in
    rw c.go_further.ensures.past (moves_next _ _ c.go_further.ensures.goes.moved cursor.is_past cursor.resting c.go_further.result
    (filled cursor.stack.items c.len.result c.len.ensures.value c.in-Some.ensures.0) c.go_further.ensures.goes.found)

pub returns-clause-opens : goal.returns-clause-opens
unfolding cursor_viewers
returns-clause-opens c =
    let cursor = c.args.self.now in
    opens_next _ _ c.go_further.ensures.goes.moved cursor.is_past cursor.resting c.go_further.result
    (filled cursor.stack.items c.len.result c.len.ensures.value c.in-Some.ensures.0) _ _ c.go_further.ensures.goes.found c.go_further.ensures.goes.opened
