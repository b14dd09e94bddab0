use Rattle.std.proofs.Common.{◌≡◌, flat_map, take}
use Rattle.test_calls.proofs.memory.gather.Given as goal

-- the pieces so far
abbrev pub invariant-loop-piece : goal.invariant-loop-piece
invariant-loop-piece l = l.text.items ≡ flat_map (λ piece. piece.now) (take l.piece-index l.pieces)
