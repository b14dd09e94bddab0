-- What a buffer gathers before it is written.
use Rattle.std.specs.Prelude.{◌≡◌, ◌++◌, ℕ, List, Result}
use Rattle.bolt_format.specs.{Wrote.Wrote, Endings.page_ending, declared.sink.Sink.Ghosts}

-- the buffer loses at its front what is written
pub record Buffers {S A E : Type 0} (sink : Ghosts S) (old new : S) (before after : List ℕ) (result : Result A E) : Type 0 where
  pub put : List ℕ
  pub parts : before ≡ put ++ after
  pub puts : Wrote sink old new put (page_ending result)
