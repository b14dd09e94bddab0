-- What a call that gathers bytes leaves on its sink and in its buffer.
use Rattle.std.specs.Prelude.{◌≡◌, ℕ, List, [], ◌++◌}
use Rattle.bolt_format.specs.{Endings.Ending, Endings.whole, Wrote.Wrote, declared.sink.Sink.Ghosts}

-- what was still to be written when the call ended: what is gathered, or nothing if the call didn't add its text whole
abbrev pub left_gathered : Ending → List ℕ → List ℕ
left_gathered whole gathers = gathers
left_gathered _ gathers = []

-- What was gathered and the text, in this order, were written or are gathered; if the sink failed, it accepted a prefix of them.
pub record Gathers {S : Type 0} (sink : Ghosts S) (old new : S) (gathered gathers text : List ℕ) (end : Ending) : Type 0 where
  pub front : List ℕ
  pub parts : gathered ++ text ≡ front ++ left_gathered end gathers
  pub wrote : Wrote sink old new front end
