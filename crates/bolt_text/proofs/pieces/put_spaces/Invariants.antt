use Rattle.std.proofs.Common.{replicate}
use Rattle.bolt_text.proofs.Vocabulary.{Gathers, whole}
use Rattle.bolt_text.proofs.pieces.put_spaces.Given as goal

-- so many spaces were added
abbrev pub invariant-loop-i : goal.invariant-loop-i
invariant-loop-i g l = Gathers g.S.Sink l.initial.sink l.sink l.initial.gathered.items l.gathered.items (replicate l._i 0x20) whole
