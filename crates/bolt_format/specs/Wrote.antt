-- What a call that writes a text leaves on its sink.
use Rattle.std.specs.Prelude.{◌≡◌, ◌<◌, ℕ, List}
use Rattle.std.specs.Io.KnownBytes.{Appends}
use Rattle.bolt_format.specs.{Endings.Ending, Endings.whole, Endings.cut, Endings.broken, Endings.halted, Sinks.AppendsPrefix}
use Rattle.bolt_format.specs.{Sinks.AppendsProperPrefix, declared.sink.Sink.Ghosts}

-- how much of the text the sink accepted: all of it, if the call wrote it whole
abbrev pub AppendsTo : {S : Type 0} (sink : Ghosts S) (old new : S) (text : List ℕ) → Ending → Type 0
AppendsTo sink old new text whole = Appends (sink.taken old) (sink.taken new) text
AppendsTo sink old new text cut = AppendsProperPrefix (sink.taken old) (sink.taken new) text
AppendsTo sink old new text broken = AppendsPrefix (sink.taken old) (sink.taken new) text
AppendsTo sink old new text halted = AppendsPrefix (sink.taken old) (sink.taken new) text

-- the sink failed exactly if the call ended so
abbrev pub Fails : {S : Type 0} (sink : Ghosts S) (old new : S) → Ending → Type 0
Fails sink old new whole = sink.failed new ≡ sink.failed old
Fails sink old new cut = 0 < sink.failed new
Fails sink old new broken = 0 < sink.failed new
Fails sink old new halted = sink.failed new ≡ sink.failed old

-- From its state `old` to `new` the sink accepted a prefix of the text, and all of it if the call wrote it whole.
pub record Wrote {S : Type 0} (sink : Ghosts S) (old new : S) (text : List ℕ) (end : Ending) : Type 0 where
  pub appends : AppendsTo sink old new text end
  pub failures : Fails sink old new end
