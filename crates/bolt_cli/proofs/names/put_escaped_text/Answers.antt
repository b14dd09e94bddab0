use Rattle.std.proofs.Common.{List, ℕ, flat_map, sym, subst, ap, ◌∙◌, map-id}
use Rattle.std.specs.Char.{encode_utf8}
use Rattle.std.proofs.{lemmas.Iterator.YieldsList-from_chars, lemmas.Iterator.Consumers.YieldsList-end}
use Rattle.bolt_format.specs.contracts.sink.MemSinkSink.TheImpl as mem
use Rattle.bolt_cli.specs.{Gathered.GathersPiece, Names.shown_char}
use Rattle.bolt_cli.proofs.names.put_escaped_text.Goals as goal

pub returns : goal.returns
returns c =
    let end =
    YieldsList-end (YieldsList-from_chars c.args.text.now c.utf8.text cc) c.loop-c.yielded _ c.loop-c.yielded_by _ _ c.in-None.is c.next.ensures.steps in
    subst (λ (text : List ℕ). GathersPiece mem.ghosts c.args.shown.now c.loop-c.shown text)
    (ap (λ cs. flat_map encode_utf8 (flat_map (shown_char c.args.has_lines) cs)) (sym (map-id c.loop-c.yielded) ∙ end.0)) c.loop-c.invariant
