use Rattle.std.proofs.Common.{◌∙◌, ◌≡◌}
use Rattle.bolt_tree.proofs.{Words.IsMoved, Words.cursor_trail, Words.trail_on, RestingLemmas.moved_resting, RestingLemmas.resting_rest}
use Rattle.bolt_tree.proofs.{RestingLemmas.resting_stack, TrailLemmas.kept_stack}
use Rattle.bolt_tree.proofs.cursor.Cursor.go_further.Goals as goal

pub invariant_of-self : goal.invariant_of-self
invariant_of-self c = record { resting = moved_resting _ _ _ c.args.self.now.resting c.requires c.go.ensures.moved c.go.ensures.rest }

pub invariant_of-self-2 : goal.invariant_of-self-2
invariant_of-self-2 c =
    let was = c.args.self.now in
    let kept : c.set_positions-2.new.stack.items ≡ was.stack.items =
    c.set_positions-2.ensures ∙ (c.as_slice-2.ensures.value ∙ (c.set_positions.ensures ∙ c.as_slice.ensures.value)) in
    let stack = kept_stack _ _ c.set_positions-2.new.stack.items c.go.ensures.moved kept (resting_stack _ _ was.resting) in
    let moved : IsMoved (cursor_trail was) (trail_on c.go.new.self c.set_positions-2.new.stack.items) =
    record { file = c.go.ensures.moved.file; at = c.go.ensures.moved.at; stack = stack } in
    record { resting = moved_resting _ _ _ was.resting c.requires moved (rw kept (resting_rest _ _ was.resting)) }
