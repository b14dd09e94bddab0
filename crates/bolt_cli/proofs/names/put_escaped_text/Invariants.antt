use Rattle.std.proofs.Common.{flat_map}
use Rattle.std.specs.Char.{encode_utf8}
use Rattle.bolt_format.specs.contracts.sink.MemSinkSink.TheImpl as mem
use Rattle.bolt_cli.specs.{Gathered.GathersPiece, Names.shown_char}
use Rattle.bolt_cli.proofs.names.put_escaped_text.Given as goal

-- the characters so far were added
abbrev pub invariant-loop-c : goal.invariant-loop-c
invariant-loop-c l = GathersPiece mem.ghosts l.initial.shown l.shown (flat_map encode_utf8 (flat_map (shown_char l.has_lines) l.yielded))
