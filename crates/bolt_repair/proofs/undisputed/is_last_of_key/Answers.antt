-- Where there is no next candidate, this one is the last of all.
use Rattle.std.proofs.Common.{sym}
use Rattle.bolt_repair.proofs.Alones.{at_the_end}
use Rattle.bolt_repair.proofs.undisputed.is_last_of_key.Goals as goal

pub returns-in-None : goal.returns-in-None
returns-in-None c = let (_, _, _, past, _) = c.in-None.ensures.lookup in sym (at_the_end c.args.candidates.now c.args.i c.requires past)
