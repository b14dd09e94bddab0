-- A text that is gathered piece by piece.
use Rattle.std.proofs.Common.{◌≡◌, List, ◌++◌, ℕ}
use Rattle.bolt_cli.proofs.Vocabulary.{Appends, Ghosts}

module _ {S : Type 0} (sink : Ghosts S) where
  -- a front of the text was added, and this is left
  abbrev pub GathersFront : (old new : S) (whole rest : List ℕ) → Type 0
  GathersFront old new whole rest =
      sink.failed new ≡ 0 → (sink.failed old ≡ 0) × ((front : List ℕ) × (whole ≡ front ++ rest) × Appends (sink.taken old) (sink.taken new) front)
