use Rattle.std.proofs.Common.{ap, refl}
use Rattle.bolt_cli.proofs.{Vocabulary.error_line, Telling.DoesDeeds-one}
use Rattle.bolt_cli.proofs.faults.refuse_word.Goals as goal

pub returns : goal.returns
returns g c = DoesDeeds-one _ c.say.ensures (ap error_line c.as_bytes.ensures.value, refl)
