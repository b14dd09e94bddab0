use Rattle.std.proofs.Common.{refl}
use Rattle.bolt_cli.proofs.Telling.{DoesDeeds-none}
use Rattle.bolt_cli.proofs.whole_run.report_unprinted.Goals as goal

pub returns-in-ReaderLeft : goal.returns-in-ReaderLeft
returns-in-ReaderLeft g c = rw c.in-ReaderLeft.is (DoesDeeds-none (refl, refl))

pub returns-in-Failed : goal.returns-in-Failed
returns-in-Failed g c = rw c.in-Failed.is c.fail.ensures
