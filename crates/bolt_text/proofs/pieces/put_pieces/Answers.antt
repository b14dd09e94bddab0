use Rattle.std.proofs.Common.{ap}
use Rattle.std.proofs.lemmas.List.{take_all}
use Rattle.bolt_text.proofs.Vocabulary.{pieces_text, slice_get-get_or, Wrote-same}
use Rattle.bolt_text.proofs.GatherLemmas.{Gathers-element, Gathers-last_element, Wrote-gathered, Wrote-gathered_fault}
use Rattle.bolt_text.specs.Pieces.{piece_text}
use Rattle.bolt_text.proofs.pieces.put_pieces.Goals as goal

pub returns-in_err-put_piece : goal.returns-in_err-put_piece
returns-in_err-put_piece g c =
    Wrote-gathered_fault _ c.new-gathered.ensures c.from_residual.ensures.0
    (Gathers-last_element piece_text c.args.pieces.now c.loop-piece.piece-index _ _ (slice_get-get_or _ _ _ c.loop-piece-test.true) c.loop-piece.invariant
    c.in_err-put_piece.ensures c.from_residual.ensures.0)

pub loop-piece-preserved : goal.loop-piece-preserved
loop-piece-preserved g c =
    Gathers-element piece_text c.args.pieces.now c.loop-piece.piece-index _ (slice_get-get_or _ _ _ c.loop-piece-test.true) c.loop-piece.invariant
    c.in_ok-put_piece.ensures

pub returns : goal.returns
returns g c =
    Wrote-same (ap pieces_text (take_all c.loop-piece.piece-index c.args.pieces.now c.loop-piece-test.false))
    (Wrote-gathered c.new-gathered.ensures c.loop-piece.invariant (Wrote-same c.as_slice.ensures.value c.put.ensures))
