-- A text that is gathered in memory, piece by piece. Whether there was memory for it is asked at the end.
use Rattle.std.specs.Prelude.{◌≡◌, List, ℕ}
use Rattle.std.specs.Io.KnownBytes.{Appends}
use Rattle.bolt_format.specs.declared.sink.Sink.{Ghosts}

-- a piece was added, if the sink hasn't failed by then
abbrev pub GathersPiece : {S : Type 0} → (sink : Ghosts S) → (old new : S) → List ℕ → Type 0
GathersPiece sink old new piece = sink.failed new ≡ 0 → (sink.failed old ≡ 0) × Appends (sink.taken old) (sink.taken new) piece
