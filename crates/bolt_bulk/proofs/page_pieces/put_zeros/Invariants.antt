-- `left` zeros are left to write.
use Rattle.std.proofs.Common.{replicate}
use Rattle.bolt_bulk.proofs.page_pieces.put_zeros.Given as goal
use Rattle.bolt_format.proofs.Exports.{WroteFront}

abbrev pub invariant-loop-left : goal.invariant-loop-left
invariant-loop-left g l = WroteFront g.S.Sink l.initial.sink l.sink (replicate l.count 0) (replicate l.left 0)

abbrev pub decreases-loop-left : goal.decreases-loop-left
decreases-loop-left g l = l.left
