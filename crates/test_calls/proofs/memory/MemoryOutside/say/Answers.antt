use Rattle.std.proofs.Common.{◌∙◌, [], ap, sym}
use Rattle.bolt_cli.specs.Deeds.{Said}
use Rattle.test_calls.proofs.Pieces.{joined_is}
use Rattle.test_calls.specs.Logs.{look_of}
use Rattle.test_calls.specs.declared.log.Kind.TheVariants as kind
use Rattle.test_calls.proofs.memory.MemoryOutside.say.Goals as goal

pub returns-in-Ok : goal.returns-in-Ok
returns-in-Ok c =
    c.note.ensures (Said _) (ap (λ text. look_of kind.Said [] text 0) (joined_is c.args.pieces.now ∙ sym c.in-Ok.ensures ∙ sym c.as_slice.ensures.value))
