use Rattle.std.proofs.Common.{take}
use Rattle.bolt_text.proofs.Vocabulary.{Gathers, later_parts, whole}
use Rattle.bolt_text.proofs.path_pieces.put_parts_after.Given as goal

-- the parts before this one were added
abbrev pub invariant-loop-part : goal.invariant-loop-part
invariant-loop-part g l =
    Gathers g.S.Sink l.initial.sink l.sink l.initial.gathered.items l.gathered.items (later_parts l.form (take l.part-index l.parts)) whole
