use Rattle.bolt_cli.proofs.Printing.{answers_printed}
use Rattle.bolt_cli.proofs.laws.answers_are_printed.Goals as goal

pub returns : goal.returns
returns g c = λ all words deeds code is. answers_printed g.O.Target.Sink g.O.Output.Sink all words deeds code is
