use Rattle.std.proofs.Common.{flat_map}
use Rattle.std.specs.{Char.encode_utf8, Char.Escape.escape_default, Char.Iter.escape_rest}
use Rattle.bolt_cli.proofs.Gathering.{GathersFront}
use Rattle.bolt_format.specs.contracts.sink.MemSinkSink.TheImpl as mem
use Rattle.bolt_cli.proofs.names.put_escape.Given as goal

-- the characters before those that are left were added
abbrev pub invariant-loop-escaped : goal.invariant-loop-escaped
invariant-loop-escaped l =
    GathersFront mem.ghosts l.fn.shown l.shown (flat_map encode_utf8 (escape_default l.fn.c)) (flat_map encode_utf8 (escape_rest l.escaped-iterator))
