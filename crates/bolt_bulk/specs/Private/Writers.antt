-- What calls that write pages do with their writer.
use Rattle.std.specs.Prelude.{◌≡◌, ℕ, ◌+◌, [], ◌∷◌, Result}
use Rattle.bolt_format.specs.{declared.sink.Sink.Ghosts, declared.sink.SinkFault.SinkFault}
use Rattle.bolt_layout.specs.{Laid.Placed, Layout.placed_bytes, Levels.overflow_of}
use Rattle.bolt_bulk.specs.{Private.PagesWritten.WritesText, declared.page_writer.PageWriter.PageWriter}

-- a writer goes on with the same setup, on the same sink
pub record IsSameWriter {S : Type 0} (old new : PageWriter S) : Type 0 where
  pub setup : new.setup ≡ old.setup
  pub sink : new.sink.ghost_name ≡ old.sink.ghost_name

-- a writer writes one page
abbrev pub WritesPage : {S A : Type 0} → Ghosts S → (old new : PageWriter S) → Placed → Result A SinkFault → Type 0
WritesPage sink old new page result = WritesText sink old.sink.now new.sink.now (placed_bytes old.setup.page_size (page ∷ [])) result

-- the number after the next page, if that has this size
abbrev pub next_after : {S : Type 0} → PageWriter S → (size : ℕ) → ℕ
next_after writer size = writer.next + (1 + overflow_of writer.setup.page_size size)
